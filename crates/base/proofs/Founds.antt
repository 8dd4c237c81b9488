-- What the making of a base comes to.
use Rattle.std.proofs.Common.{◌≡◌, ℕ, true, false, ◌&&◌, eqb, Ok, Err, sym}
use Rattle.std.proofs.lemmas.Bool.{and_parts, eqb-true}
use Rattle.refusal.specs.declared.Refusal.TheVariants.{OutOfLimits}
use Rattle.cipher.specs.declared.key.Key.{Key}
use Rattle.link.specs.Base.{Setup, Supply, a_pair, found, in_limits, setup_of, unused}

module _ (first second : Supply) (commitment : Key) (start duration delay : ℕ) where
  abbrev setup : Setup
  setup = setup_of first second commitment start duration delay

  pub turned_down : false ≡ (in_limits setup && a_pair first second) → found first second commitment start duration delay ≡ Err OutOfLimits
  unfolding found
  turned_down e = rw (← e)

  pub founded : true ≡ (in_limits setup && a_pair first second) → found first second commitment start duration delay ≡ Ok (unused setup)
  unfolding found
  founded e = rw (← e)

  pub pair_of : true ≡ (in_limits setup && a_pair first second) → (first.given ≡ 0) × (second.given ≡ 0) × (first.count ≡ second.count)
  pair_of e =
      let both = (and_parts (in_limits setup) (a_pair first second) (sym e)).1 in
      let front = and_parts (eqb first.given 0 && eqb second.given 0) (eqb first.count second.count) both in
      let given = and_parts (eqb first.given 0) (eqb second.given 0) front.0 in
      (eqb-true _ _ given.0, eqb-true _ _ given.1, eqb-true _ _ front.1)
