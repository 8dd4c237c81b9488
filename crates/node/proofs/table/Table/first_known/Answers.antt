use Rattle.std.proofs.Common.{◌≡◌, ℕ, ◌+◌, ◌<◌, ◌≤◌, ◌⊎◌, List, [], ◌∷◌, ◌++◌, map, length, get_or, take, Some, Option, ap, subst, inl, inr, ◌∙◌, arith}
use Rattle.link.proofs.Uptos.{upto_nil}
use Rattle.node.specs.declared.slot.Slot.{Slot}
use Rattle.std.proofs.lemmas.List.{take_all}
use Rattle.node.specs.Places.{held, slot_said}
use Rattle.node.proofs.Tables.{one_past, length_first}
use Rattle.node.proofs.Firsts.{Leading, leading_keeps, leading_takes, leading_means}
use Rattle.node.proofs.table.Table.first_known.Goals as goal
use Rattle.node.proofs.table.Table.first_known.Goals.{then-interval-gt0+then-interval-least, else-interval-gt0, else-interval-gt0-via-then-interval-gt0+else-interval-least, else-interval-gt0-via-else-interval-gt0}

-- the next slot is looked at, whose interval is m
module _ (a : ℕ) (slots : List Slot) (i : ℕ) (slot : Slot) (first : Option ℕ) (least m : ℕ) (within : i < length slots) (is : m ≡ (get_or slots i slot).interval) (inv : Leading a (map slot_said (take i slots)) first least) where
  keeps : (first' : Option ℕ) (least' : ℕ) → first' ≡ first → least' ≡ least → (m ≡ 0) ⊎ (least ≤ m) → Leading a (map slot_said (take (i + 1) slots)) first' least'
  keeps first' least' e f h =
      let now : ((get_or slots i slot).interval ≡ 0) ⊎ (least ≤ (get_or slots i slot).interval) = subst (λ n. (n ≡ 0) ⊎ (least ≤ n)) is h in
      rw (e, f, one_past slot_said slots i slot within) (leading_keeps a _ (slot_said (get_or slots i slot)) first least inv now)

  takes : (first' : Option ℕ) (least' : ℕ) → first' ≡ Some i → least' ≡ m → 0 < m → m < least → Leading a (map slot_said (take (i + 1) slots)) first' least'
  takes first' least' e f one less =
      let long : length (map slot_said (take i slots)) ≡ i = length_first slot_said slots i (omega arith) in
      let leads = leading_takes a _ (slot_said (get_or slots i slot)) first least inv (omega (arith, is)) (omega (arith, is)) in
      rw (e, f, is, one_past slot_said slots i slot within) (subst (λ n. Leading a (map slot_said (take i slots) ++ slot_said (get_or slots i slot) ∷ []) (Some n) (get_or slots i slot).interval) long leads)

pub loop-place-init : goal.loop-place-init
loop-place-init c = (ap (λ n. n + 1) c.from-least.ensures, upto_nil _ c.args.reached)

pub loop-place-preserved : goal.loop-place-preserved
loop-place-preserved c =
    let slots = c.taken-slot-items.result.now in
    let here : c.from-interval.result ≡ (get_or slots c.loop-place.place c.slot-item.result).interval = c.from-interval.ensures ∙ ap (λ s. s.interval) c.slot-item.is in
    elim c.if-interval-gt0.branch [
      | then-interval-gt0+then-interval-least w ↦
          takes _ slots c.loop-place.place c.slot-item.result c.loop-place.first c.loop-place.least c.from-interval.result (omega arith) here c.loop-place.invariant _ _ w.first-is w.least-is w.if-interval-gt0.true w.if-interval-least.true
      | else-interval-gt0 w ↦
          let other : (c.from-interval.result ≡ 0) ⊎ (c.loop-place.least ≤ c.from-interval.result) = elim w.else-interval-gt0.branch [
            | else-interval-gt0-via-then-interval-gt0+else-interval-least w' ↦ inr w'.if-interval-least.false
            | else-interval-gt0-via-else-interval-gt0 w' ↦ inl (omega arith)
          ] in
          keeps _ slots c.loop-place.place c.slot-item.result c.loop-place.first c.loop-place.least c.from-interval.result (omega arith) here c.loop-place.invariant _ _ w.first-is w.least-is other
    ]

pub returns : goal.returns
returns c =
    let slots = c.taken-slot-items.result.now in
    let whole : take c.loop-place.place slots ≡ slots = take_all c.loop-place.place slots (omega arith) in
    let all : map slot_said (take c.loop-place.place slots) ≡ held c.args.self.now = ap (map slot_said) whole ∙ c.taken-slot-items.ensures in
    leading_means c.args.reached _ c.loop-place.first c.loop-place.least (subst (λ ps. Leading c.args.reached ps c.loop-place.first c.loop-place.least) all c.loop-place.invariant)
