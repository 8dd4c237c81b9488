-- Calls of a base that stands for a base of the rules.
use Rattle.std.proofs.Common.{◌≡◌, ℕ, ◌≤◌, List, Some, Ok, Err, Result, sym, ap, ◌∙◌, subst}
use Rattle.std.specs.Result.{IsErrAnd}
use Rattle.refusal.specs.declared.Refusal.{Refusal}
use Rattle.cipher.specs.declared.block.Block as block
use Rattle.cipher.specs.Blocks.{Make}
use Rattle.source.specs.declared.key_source.KeySource.{Ghosts}
use Rattle.link.specs.Questions.{first_no, unless}
use Rattle.link.proofs.Exits.{passed_on}
use Rattle.link.specs.Base as rules
use Rattle.base.specs.declared.state.Base.{Base}
use Rattle.base.specs.Meaning.{Called, Means, lent}

module _ {B M D : Type 0} {c : block.Ghosts B} (m : Ghosts M) (d : Ghosts D) (b : Base B M D c m d) (x : rules.Base) (means : Means m d b x) where
  -- the latest reading is not before the start
  pub begun : x.setup.start ≤ x.latest
  begun =
      let start : b.schedule.start ≡ x.setup.start = ap (λ n. n.start) means.same in
      let latest : b.latest ≡ x.latest = ap (λ n. n.latest) means.same in
      rw (← start, ← latest) b.begun

  pub refused_call : (cipher : Make) (errand : rules.Errand) (e : Refusal) (r : Result ℕ Refusal) (out : List ℕ) → first_no (rules.base_questions x errand) ≡ Some e → IsErrAnd r (λ y. y ≡ e) → Called cipher m d x errand r out out b
  unfolding rules.reply rules.base_then
  refused_call cipher errand e r out asks exit =
      let is : r ≡ Err e = passed_on (λ x. x) r e exit in
      let P : rules.Base → Type 0 = λ y. Means m d b y in
      record {
        answer = is ∙ ap (λ o. (lent (unless o Err (Ok (rules.written cipher x errand))) out).0) (sym asks);
        buffer = ap (λ o. (lent (unless o Err (Ok (rules.written cipher x errand))) out).1) (sym asks);
        after = subst P (ap (λ o. unless o (λ _. x) (rules.done x errand)) (sym asks)) means;
      }
