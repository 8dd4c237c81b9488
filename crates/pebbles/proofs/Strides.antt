-- The strides of the levels are powers of two: how the levels' targets lie within 2 ^ k places, and which levels move.
use Rattle.std.proofs.Common.{◌≡◌, ℕ, zero, suc, ◌+◌, ◌-◌, ◌*◌, ◌/◌, ◌^◌, ◌<◌, ◌≤◌, true, sym, ap, ◌∙◌, mul_assoc, mul_comm, mul-le-mul_left, mul-add, mul_left_comm, add-sub_of_le, le_of_lt, arith, pow_pos, pow_mono, pow-add}
use native.Mathlib.Nat.{pow-succ', le_of_mul-le-mul_left}
use Rattle.std.proofs.lemmas.Nat.{div-mul-add, pow_below}
use Rattle.pebbles.specs.Levels.{moves}
use Rattle.pebbles.specs.Places.{served, since, next_target, standing_after}
use Rattle.pebbles.proofs.Places.{counted, target_stride, moving}
use Rattle.pebbles.proofs.Zeros.{twice_power}

pub even_power : (j : ℕ) → 0 < j → 2 ^ j ≡ 2 * 2 ^ (j - 1)
even_power zero h = absurd (omega arith)
even_power (suc j) h = let less : j ≡ suc j - 1 = omega arith in pow-succ' 2 j ∙ ap (λ x. 2 * 2 ^ x) less

-- of two powers of two the larger has the larger exponent
pub exponent_le : (a b : ℕ) → 2 ^ a ≤ 2 ^ b → a ≤ b
exponent_le a b h = grind (arith, pow_below)

-- a level with a target within the chain is one of the k levels
pub level_within : (k j q : ℕ) → next_target (2 ^ j) q ≤ 2 ^ k → j ≤ k
level_within k j q h = exponent_le j k (omega (arith, target_stride (2 ^ j) q))

-- and where it has served a place already, it lies below the last two
pub level_below : (k j q : ℕ) → 0 < q → next_target (2 ^ j) q ≤ 2 ^ k → suc j < k
level_below k j q some h = grind (arith, pow_mono {i = k} {j = suc j}, pow-succ' 2 j, pow_pos j, target_stride (2 ^ j) q, mul-le-mul_left (2 * 2 ^ j) some)

-- an odd multiple of a stride lies a stride below the next multiple of a larger power of two
pub stride_of_room : (k j q : ℕ) → 0 < q → next_target (2 ^ j) q ≤ 2 ^ k → next_target (2 ^ j) q + 2 ^ j ≤ 2 ^ k
stride_of_room k j q some h =
    let below : suc j < k = level_below k j q some h in
    let rest : ℕ = 2 ^ (k - suc j) in
    let split : 2 ^ k ≡ 2 ^ j * (2 * rest) =
    ap (λ x. 2 ^ x) (sym (add-sub_of_le (le_of_lt below))) ∙ pow-add 2 (suc j) (k - suc j) ∙ twice_power j rest ∙ mul_left_comm 2 (2 ^ j) rest in
    let odd : 2 * q + 1 ≤ 2 * rest = le_of_mul-le-mul_left (omega arith) (pow_pos j) in
    omega (arith, mul-le-mul_left {m = 2 * q + 2} {n = 2 * rest} (2 ^ j) (omega arith), mul-add (2 ^ j) (2 * q + 1) 1)

-- a multiple of a power of two has at least its trailing zero bits
pub zeros_at_least : (j v c m : ℕ) → 2 ^ j * c ≡ 2 ^ v * (2 * m + 1) → j ≤ v
zeros_at_least zero v c m e = omega arith
zeros_at_least (suc j) zero c m e = absurd (omega (arith, twice_power j c))
zeros_at_least (suc j) (suc v) c m e =
    omega (arith, zeros_at_least j v c m (omega (arith, twice_power j c, twice_power v (2 * m + 1))))

-- two neighbouring levels do not move in one call
pub neighbours : {X : Type 0} (chain : ℕ → X) (n g p : ℕ) → 0 < p
    → moves (standing_after chain n g p) ≡ true → moves (standing_after chain n g (2 * p)) ≡ true → ⊥
neighbours chain n g p pos low high =
    let a = moving chain n p (served g p) (since g p) low in
    let b = moving chain n (2 * p) (served g (2 * p)) (since g (2 * p)) high in
    let q : ℕ = served g p in
    let q' : ℕ = served g (2 * p) in
    let same : (2 * q + 1) * p + since g p ≡ (4 * q') * p + since g (2 * p) =
    omega (arith, counted g p pos, counted g (2 * p) (omega arith), target_stride p q, mul_comm (2 * q + 1) p, mul_assoc 4 q' p, mul_left_comm q' 2 (2 * p), mul_left_comm q' 2 p) in
    let quotients : 2 * q + 1 ≡ 4 * q' =
    sym (div-mul-add (2 * q + 1) p (since g p) (omega arith)) ∙ ap (λ x. x / p) same ∙ div-mul-add (4 * q') p (since g (2 * p)) (omega arith) in
    omega arith
