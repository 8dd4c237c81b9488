-- Which packet is the first to go out, as packets are looked at one by one.
use Rattle.std.proofs.Common.{◌≡◌, ℕ, zero, suc, ◌+◌, ◌<◌, ◌≤◌, eqb, ◌⊎◌, List, [], ◌∷◌, ◌++◌, length, get_or, Some, None, Option, sym, refl, ap, ◌∙◌, subst, inl, inr, append_assoc, append-nil, arith}
use Rattle.std.specs.List.{AllByRecursion}
use Rattle.std.proofs.lemmas.List.Elements.{filter-append}
use Rattle.std.proofs.ByRecursion.{kept_by_passes, All-append, All-weaker}
use Rattle.std.proofs.lemmas.List.{length_push, get_or_push, get_or_append_left}
use Rattle.std.proofs.lemmas.Bool.{eqb-true, eq-eqb, cases_eq, cases_lt}
use Rattle.packet.specs.Kinds.{Data}
use Rattle.link.specs.Intervals.{of_interval, upto}
use Rattle.link.proofs.Uptos.{of_interval_push_other, upto_push_above}
use Rattle.node.specs.Places.{FirstAt, KnownFirst}

module _ {X : Type 0} (interval : X → ℕ) where
  -- what comes last in the list goes behind those of its own interval
  pub record Split (a : ℕ) (xs : List X) (x : X) : Type 0 where
    pub behind : List X
    pub before : upto interval a xs ≡ upto interval (interval x) xs ++ behind
    pub after : upto interval a (xs ++ x ∷ []) ≡ upto interval (interval x) xs ++ x ∷ behind
    pub later : AllByRecursion (λ y. interval x < interval y) behind

  of_interval_push : (m : ℕ) (xs : List X) (x : X) → interval x ≡ m → of_interval interval m (xs ++ x ∷ []) ≡ of_interval interval m xs ++ x ∷ []
  of_interval_push m xs x e = filter-append (λ y. eqb (interval y) m) xs (x ∷ []) ∙ rw (eq-eqb (interval x) m e) refl

  upto_push_zero : (a : ℕ) (xs : List X) (x : X) → interval x ≡ 0 → upto interval a (xs ++ x ∷ []) ≡ upto interval a xs
  upto_push_zero zero xs x e = refl
  upto_push_zero (suc a) xs x e =
      λ i. upto_push_zero a xs x e i ++ of_interval_push_other interval (suc a) xs x (λ s. omega arith) i

  upto_most : (a : ℕ) (xs : List X) → AllByRecursion (λ y. interval y ≤ a) (upto interval a xs)
  upto_most zero xs = tt
  upto_most (suc a) xs =
      All-append (λ y. interval y ≤ suc a) (upto interval a xs) _
      (All-weaker (λ y. interval y ≤ a) (λ y. interval y ≤ suc a) (λ y h. omega arith) _ (upto_most a xs))
      (All-weaker _ (λ y. interval y ≤ suc a) (λ y h. omega (arith, eqb-true (interval y) (suc a) h)) _ (kept_by_passes (λ y. eqb (interval y) (suc a)) xs))

  split : (a : ℕ) (xs : List X) (x : X) → 1 ≤ interval x → interval x ≤ a → Split a xs x
  split zero xs x one le = absurd (omega arith)
  split (suc a) xs x one le = elim (cases_eq (interval x) (suc a)) [
    | inl e ↦
        let same : upto interval (suc a) xs ≡ upto interval (interval x) xs = ap (λ m. upto interval m xs) (sym e) in
        record {
          behind = [];
          before = same ∙ sym (append-nil _);
          after = (λ i. upto_push_above interval a xs x (omega arith) i ++ of_interval_push (suc a) xs x e i) ∙ sym (append_assoc (upto interval a xs) _ _) ∙ ap (λ ys. ys ++ x ∷ []) same;
          later = tt;
        }
    | inr ne ↦
        let ih : Split a xs x = split a xs x one (omega (arith, ne)) in
        let last : List X = of_interval interval (suc a) xs in
        record {
          behind = ih.behind ++ last;
          before = ap (λ ys. ys ++ last) ih.before ∙ append_assoc (upto interval (interval x) xs) ih.behind last;
          after = (λ i. ih.after i ++ of_interval_push_other interval (suc a) xs x ne i) ∙ append_assoc (upto interval (interval x) xs) (x ∷ ih.behind) last;
          later = All-append (λ y. interval x < interval y) ih.behind last ih.later
              (All-weaker _ (λ y. interval x < interval y) (λ y h. omega (arith, ne, eqb-true (interval y) (suc a) h)) _ (kept_by_passes (λ y. eqb (interval y) (suc a)) xs));
        }
  ]

-- what is known after some packets: the place of the first to go out, and its interval
abbrev pub Leading : ℕ → List Data → Option ℕ → ℕ → Type 0
Leading a ps None least = (least ≡ a + 1) × (upto (λ p. p.interval) a ps ≡ [])
Leading a ps (Some place) least = FirstAt a ps place × ((d : Data) → (get_or ps place d).interval ≡ least)

abbrev interval_of : Data → ℕ
interval_of p = p.interval

-- the first packet stays first
stays : (a : ℕ) (ps : List Data) (x : Data) (place : ℕ) (h : FirstAt a ps place) (rest : List Data) → ((d : Data) → upto interval_of a (ps ++ x ∷ []) ≡ get_or ps place d ∷ rest) → FirstAt a (ps ++ x ∷ []) place
stays a ps x place h rest e = record {
  within = omega (arith, length_push ps x, h.within);
  rest = rest;
  first = λ d. e d ∙ ap (λ y. y ∷ rest) (sym (get_or_append_left ps (x ∷ []) d place h.within));
}

stays_least : (a : ℕ) (ps : List Data) (x : Data) (place least : ℕ) → FirstAt a ps place → ((d : Data) → (get_or ps place d).interval ≡ least) → (d : Data) → (get_or (ps ++ x ∷ []) place d).interval ≡ least
stays_least a ps x place least h e d = ap interval_of (get_or_append_left ps (x ∷ []) d place h.within) ∙ e d

-- a packet that does not come before it
behind_it : (a : ℕ) (ps : List Data) (x : Data) (place least : ℕ) (h : FirstAt a ps place) → ((d : Data) → (get_or ps place d).interval ≡ least) → least ≤ x.interval → (front behind : List Data) → upto interval_of a ps ≡ front ++ behind → upto interval_of a (ps ++ x ∷ []) ≡ front ++ x ∷ behind → AllByRecursion (λ y. x.interval < y.interval) behind → FirstAt a (ps ++ x ∷ []) place
behind_it a ps x place least h is le [] behind before after later =
    let whole : behind ≡ get_or ps place x ∷ h.rest = sym before ∙ h.first x in
    absurd (omega (arith, (subst (AllByRecursion (λ y. x.interval < y.interval)) whole later).0, is x))
behind_it a ps x place least h is le (u ∷ us) behind before after later =
    stays a ps x place h (us ++ x ∷ behind) (λ d. let same : u ≡ get_or ps place d = cc (sym before ∙ h.first d) in after ∙ ap (λ y. y ∷ (us ++ x ∷ behind)) same)

pub leading_keeps : (a : ℕ) (ps : List Data) (x : Data) (first : Option ℕ) (least : ℕ) → Leading a ps first least → (x.interval ≡ 0) ⊎ (least ≤ x.interval) → Leading a (ps ++ x ∷ []) first least
leading_keeps a ps x None least h (inl z) = (h.0, upto_push_zero interval_of a ps x z ∙ h.1)
leading_keeps a ps x None least h (inr le) = (h.0, upto_push_above interval_of a ps x (omega (arith, h.0)) ∙ h.1)
leading_keeps a ps x (Some place) least h (inl z) =
    (stays a ps x place h.0 h.0.rest (λ d. upto_push_zero interval_of a ps x z ∙ h.0.first d), stays_least a ps x place least h.0 h.1)
leading_keeps a ps x (Some place) least h (inr le) = elim (cases_lt a x.interval) [
  | inl above ↦ (stays a ps x place h.0 h.0.rest (λ d. upto_push_above interval_of a ps x above ∙ h.0.first d), stays_least a ps x place least h.0 h.1)
  | inr under ↦ elim (cases_lt 0 x.interval) [
    | inl one ↦
        let s = split interval_of a ps x one under in
        (behind_it a ps x place least h.0 h.1 le (upto interval_of x.interval ps) s.behind s.before s.after s.later, stays_least a ps x place least h.0 h.1)
    | inr none ↦ (stays a ps x place h.0 h.0.rest (λ d. upto_push_zero interval_of a ps x (omega arith) ∙ h.0.first d), stays_least a ps x place least h.0 h.1)
  ]
]

-- where all that goes out at or before it is nothing, the new packet is first
comes_first : (a : ℕ) (ps : List Data) (x : Data) (s : Split interval_of a ps x) → upto interval_of x.interval ps ≡ [] → Leading a (ps ++ x ∷ []) (Some (length ps)) x.interval
comes_first a ps x s none = (
  record {
    within = omega (arith, length_push ps x);
    rest = s.behind;
    first = λ d. s.after ∙ ap (λ ys. ys ++ x ∷ s.behind) none ∙ ap (λ y. y ∷ s.behind) (sym (get_or_push ps x d (length ps) refl));
  },
  λ d. ap interval_of (get_or_push ps x d (length ps) refl),
)

empty_front : (front behind : List Data) → front ++ behind ≡ [] → front ≡ []
empty_front [] behind e = refl
empty_front (u ∷ us) behind e = absurd (let z : ◌≡◌ {A = ℕ} 0 1 = cc in omega arith)

low_front : (m least : ℕ) (p : Data) (rest front behind : List Data) → front ++ behind ≡ p ∷ rest → p.interval ≡ least → m < least → AllByRecursion (λ y. y.interval ≤ m) front → front ≡ []
low_front m least p rest [] behind e is less low = refl
low_front m least p rest (u ∷ us) behind e is less low =
    let same : u ≡ p = cc in
    absurd (omega (arith, ap interval_of same, low.0, is))

-- the first packet is one of those that go out
low_least : (a : ℕ) (ps : List Data) (place least : ℕ) (x : Data) (h : FirstAt a ps place) → ((d : Data) → (get_or ps place d).interval ≡ least) → least ≤ a
low_least a ps place least x h is =
    let low : AllByRecursion (λ y. y.interval ≤ a) (get_or ps place x ∷ h.rest) = subst (AllByRecursion (λ y. y.interval ≤ a)) (h.first x) (upto_most interval_of a ps) in
    omega (arith, low.0, is x)

pub leading_takes : (a : ℕ) (ps : List Data) (x : Data) (first : Option ℕ) (least : ℕ) → Leading a ps first least → 0 < x.interval → x.interval < least → Leading a (ps ++ x ∷ []) (Some (length ps)) x.interval
leading_takes a ps x None least h one less =
    let s = split interval_of a ps x one (omega (arith, h.0)) in
    comes_first a ps x s (empty_front _ s.behind (sym s.before ∙ h.1))
leading_takes a ps x (Some place) least h one less =
    let low = low_least a ps place least x h.0 h.1 in
    let s = split interval_of a ps x one (omega arith) in
    comes_first a ps x s (low_front x.interval least _ h.0.rest _ s.behind (sym s.before ∙ h.0.first x) (h.1 x) less (upto_most interval_of x.interval ps))

pub leading_means : (a : ℕ) (ps : List Data) (first : Option ℕ) (least : ℕ) → Leading a ps first least → KnownFirst a ps first
leading_means a ps None least h = h.1
leading_means a ps (Some place) least h = h.0
