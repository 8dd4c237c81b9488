-- Two sources of one chain make a base that is a sender.
use Rattle.std.proofs.Common.{◌≡◌, ℕ, suc, ◌+◌, ◌-◌, ◌^◌, ◌<◌, ◌≤◌, true, ◌&&◌, sym, refl, ap, ◌∙◌, subst, arith}
use native.Mathlib.Nat.{sub-zero}
use Rattle.std.proofs.lemmas.Bool.{and_parts}
use Rattle.cipher.specs.Blocks.{Make}
use Rattle.cipher.specs.declared.key.Key.{Key}
use Rattle.chain.specs.Chain.{down, step}
use Rattle.source.specs.Sources.{Source}
use Rattle.source.specs.declared.key_source.KeySource.{Ghosts}
use Rattle.link.specs.Base.{a_pair, in_limits, setup_of}
use Rattle.base.specs.Meaning.{supply}
use Rattle.base.specs.Senders.{PebbledChain, Sends}

pub sends : (cipher : Make) (first second : Source) (commitment : Key) (start duration delay : ℕ)
    → true ≡ (in_limits (setup_of (supply first) (supply second) commitment start duration delay) && a_pair (supply first) (supply second))
    → Sends cipher first second (setup_of (supply first) (supply second) commitment start duration delay)
sends cipher first second commitment start duration delay e one = (
  record {
    setup = setup_of (supply first) (supply second) commitment start duration delay;
    limits = (and_parts _ _ (sym e)).0;
    two = first.least;
    most = first.most;
    chain = one.chain;
    steps = one.steps;
    commitment = one.zeroth;
    making = one.making;
    disclosing = one.disclosing;
  },
  refl,
)

-- a key is a step below the next
down_step : (cipher : Make) (last : Key) (n m : ℕ) → m < n → down cipher last (n - m) ≡ step cipher (down cipher last (n - (m + 1)))
unfolding down
down_step cipher last n m below = let one : n - m ≡ suc (n - (m + 1)) = omega arith in ap (down cipher last) one

pub pebbled_chain : {M D : Type 0} (cipher : Make) (m : Ghosts M) (d : Ghosts D) (first : M) (second : D) (commitment : Key) → PebbledChain cipher m d first second commitment
pebbled_chain cipher m d first second commitment last k one two is = record {
  chain = λ j. down cipher last (2 ^ k - j);
  steps = λ j below. down_step cipher last (2 ^ k) j (subst (λ n. j < n) one.count below);
  zeroth = is ∙ ap (down cipher last) (sym (sub-zero (2 ^ k)));
  making = λ j from to. one.keys j from (subst (λ n. j ≤ n) one.count to);
  disclosing = λ j from to. two.keys j from (subst (λ n. j ≤ n) one.count to);
}
