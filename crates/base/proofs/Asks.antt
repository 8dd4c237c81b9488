-- The questions on plain numbers are the questions of the rules.
use Rattle.std.proofs.Common.{◌≡◌, ℕ, ◌+◌, ◌-◌, ◌*◌, ◌/◌, ◌^◌, ◌<◌, ◌≤◌, Bool, true, false, List, ◌∷◌, pos, ◌-ℤ◌, Some, None, Ok, Err, Option, Result, refl, ap, le-div_iff_mul-le, div-mul-le_self, arith}
use Rattle.std.specs.Int.{int_div_euclid}
use Rattle.std.proofs.lemmas.Int.{ints}
use Rattle.std.proofs.lemmas.Bool.{and_parts, leb-true, ltb-true}
use Rattle.refusal.specs.declared.Refusal.{Refusal}
use Rattle.link.specs.Base.{Base, base_interval}
use Rattle.link.specs.Questions.{Question, first_no}
use Rattle.link.specs.Reception.{in_order}
use Rattle.base.specs.Asked.{asked, numbers, plain_interval}

-- a call that its questions refuse, and one that they grant
pub refused_by : {A : Type 0} (qs : List Question) (a : A) (e : Refusal) → Err e ≡ asked qs a → first_no qs ≡ Some e
refused_by {A} qs a e = go (first_no qs) refl
  where
    go : (o : Option Refusal) → first_no qs ≡ o → Err e ≡ asked qs a → first_no qs ≡ Some e
    go None q h = absurd (let z : ◌≡◌ {A = ℕ} 0 1 = cc (rw q at h) in omega arith)
    go (Some r) q h = let same : ◌≡◌ {A = Result A Refusal} (Err e) (Err r) = rw q at h in cc

pub granted_by : {A : Type 0} (qs : List Question) (a b : A) → Ok b ≡ asked qs a → (first_no qs ≡ None) × (b ≡ a)
granted_by {A} qs a b = go (first_no qs) refl
  where
    go : (o : Option Refusal) → first_no qs ≡ o → Ok b ≡ asked qs a → (first_no qs ≡ None) × (b ≡ a)
    go None q h = (q, let same : ◌≡◌ {A = Result A Refusal} (Ok b) (Ok a) = rw q at h in cc)
    go (Some r) q h = absurd (let z : ◌≡◌ {A = ℕ} 0 1 = cc (rw q at h) in omega arith)

-- the interval of the rules, at a reading that is not before the start
pub plainly : (b : Base) (s : ℕ) → b.setup.start ≤ s → base_interval b.setup (pos s) ≡ pos (plain_interval (numbers b) s)
plainly b s h =
    let since : pos s -ℤ pos b.setup.start ≡ pos (s - b.setup.start) = omega (arith, ints) in
    ap (λ z. int_div_euclid z (pos b.setup.duration)) since

-- a reading in order
pub ordered : (latest s : ℕ) → in_order latest s ≡ true → (s < 2 ^ 52) × (latest ≤ s)
ordered latest s e = let p = and_parts _ _ e in (ltb-true s (2 ^ 52) p.0, leb-true latest s p.1)

-- questions behind the one for the reading need to be the same only where that is answered yes
pub after_reading : (r : Refusal) (q : Bool) (qs qs' : List Question) → (q ≡ true → first_no qs ≡ first_no qs') → first_no ((r, q) ∷ qs) ≡ first_no ((r, q) ∷ qs')
after_reading r true qs qs' h = h refl
after_reading r false qs qs' h = refl

-- an interval that has begun at a reading, and one that had begun before it
pub has_begun : (start d s : ℕ) → 0 < d → start ≤ s → start + (s - start) / d * d ≤ s
has_begun start d s h later = omega (arith, div-mul-le_self (s - start) d)

pub had_begun : (start d s m : ℕ) → 0 < d → start + m * d ≤ s → m ≤ (s - start) / d
had_begun start d s m h later = (le-div_iff_mul-le h).1 (omega arith)
