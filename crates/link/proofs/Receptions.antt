-- What holds of a receiver after any deeds: by induction, over any packets, keys and clock.
use Rattle.std.proofs.Common.{◌≡◌, ℕ, zero, suc, ◌+◌, ◌-◌, ◌<◌, ◌≤◌, Bool, true, false, not, eqb, List, [], ◌∷◌, ◌++◌, map, length, Decides, filter, sym, refl, ap, ◌∙◌, subst, inl, inr, append_assoc, append-nil, arith}
use Rattle.std.specs.List.{AllByRecursion}
use Rattle.std.proofs.lemmas.List.Elements.{filter-append, filter_agree}
use Rattle.std.proofs.ByRecursion.{kept_by_passes, All-push, All-weaker, All-append, all_kept_by}
use Rattle.std.proofs.lemmas.List.{map-append, length-append, length-map, nil_from_length}
use Rattle.std.proofs.lemmas.Bool.Decides.{same_from_decides}
use Rattle.std.proofs.lemmas.Bool.{true≢false, eqb-true, eq-eqb, cases_lt, cases_Bool, not_from_false}
use Rattle.link.specs.Intervals.{of_interval, upto}
use Rattle.link.specs.Reception.{World, State, Deed, refuses, takes, adopts, releases, rests, Taking, Outcome, Sound, has, right_now, known, next, taken_by, given_by, taken, given, after}
use Rattle.link.proofs.Keeping.{kept_in, kept_whole, kept_comm, kept_none, kept_fewer, kept_map, one_only}
use Rattle.link.proofs.Uptos.{upto_push_above, upto_more, upto_kept, upto_within, upto_nil}

-- what is known of packets, keys and clock
pub record Laws {P K : Type 0} (w : World P K) : Type 0 where
  pub equal : (p q : P) → Decides (w.same p q) (p ≡ q)
  pub equal_key : (k l : K) → Decides (w.same_key k l) (k ≡ l)
  pub down_none : (k : K) → w.down k 0 ≡ k
  pub down_down : (k : K) (a b : ℕ) → w.down (w.down k a) b ≡ w.down k (a + b)
  pub early_before : (t u m : ℕ) → u ≤ t → w.early t m ≡ true → w.early u m ≡ true
  pub early_above : (t m n : ℕ) → m ≤ n → w.early t m ≡ true → w.early t n ≡ true

-- what the questions leave of each deed
pub record Takable {P K : Type 0} (w : World P K) (s : State P K) (t : ℕ) (p : P) : Type 0 where
  pub later : s.latest ≤ t
  pub from_one : 1 ≤ w.interval p
  pub early : w.early t (w.interval p) ≡ true
  pub new : has w p s.held ≡ false

pub record Adoptable {P K : Type 0} (w : World P K) (s : State P K) (t : ℕ) (k : K) (j : ℕ) : Type 0 where
  pub later : s.latest ≤ t
  pub newer : s.reached < j
  pub due : w.early t j ≡ false
  pub of_chain : w.down k (j - s.reached) ≡ s.newest

pub record Releasable {P K : Type 0} (w : World P K) (s : State P K) (p : P) (v : Bool) : Type 0 where
  pub rest : List P
  pub first : known w s ≡ p ∷ rest
  pub judged : v ≡ right_now w s p

abbrev pub Allowed : {P K : Type 0} → World P K → State P K → Deed P K → Type 0
Allowed w s (refuses r) = Unit {0}
Allowed w s (takes t p) = Takable w s t p
Allowed w s (adopts t k j) = Adoptable w s t k j
Allowed w s (releases p v) = Releasable w s p v
Allowed w s rests = known w s ≡ []

-- each deed of a row is allowed in the state before it
abbrev pub AllAllowed : {P K : Type 0} → World P K → State P K → List (Deed P K) → Type 0
AllAllowed w s [] = Unit {0}
AllAllowed w s (d ∷ ds) = Allowed w s d × AllAllowed w (next w s d) ds

abbrev pub packets : {P : Type 0} → List (Taking P) → List P
packets ts = map (λ x. x.packet) ts

abbrev pub gone : {P : Type 0} → List (Outcome P) → List P
gone os = map (λ o. o.packet) os

module _ {P K : Type 0} (w : World P K) where
  -- the verdict of a packet that went out is still the verdict under the newest key
  abbrev pub Still : State P K → Outcome P → Type 0
  Still s o = (o.verdict ≡ right_now w s o.packet) × (1 ≤ w.interval o.packet) × (w.interval o.packet ≤ s.reached)

  abbrev pub Timely : Taking P → Type 0
  Timely x = (1 ≤ w.interval x.packet) × (w.early x.reading (w.interval x.packet) ≡ true)

  -- the invariant: a receiver's state, what it took before, and what it released
  pub record Kept (s : State P K) (ts : List (Taking P)) (os : List (Outcome P)) : Type 0 where
    pub sound : Sound w s
    pub once : (p : P) → length (filter (w.same p) (packets ts)) ≤ 1
    pub order : upto w.interval s.reached (packets ts) ≡ gone os ++ known w s
    pub above : (m : ℕ) → s.reached < m → of_interval w.interval m (packets ts) ≡ of_interval w.interval m s.held
    pub still : AllByRecursion (Still s) os
    pub timely : AllByRecursion Timely ts

module _ {P K : Type 0} (w : World P K) (laws : Laws w) where
  same_self : (p : P) → w.same p p ≡ true
  same_self p = (laws.equal p p).1 refl

  -- equal packets have equal intervals
  same_interval : (p x : P) → w.same p x ≡ true → w.interval x ≡ w.interval p
  same_interval p x e = ap w.interval (sym ((laws.equal p x).0 e))

  none_kept : (p : P) (qs : List P) → has w p qs ≡ false → filter (w.same p) qs ≡ []
  none_kept p [] h = refl
  none_kept p (q ∷ qs) h = go (none_kept p qs) (w.same p q) refl
    where
      go : (has w p qs ≡ false → filter (w.same p) qs ≡ []) → (b : Bool) → w.same p q ≡ b → filter (w.same p) (q ∷ qs) ≡ []
      go ih true e = absurd (true≢false (rw e at h))
      go ih false e = rw e (ih (rw e at h))

  -- one more packet, of which there was none
  one_more : (p : P) (qs : List P) → filter (w.same p) qs ≡ [] → ((x : P) → length (filter (w.same x) qs) ≤ 1) → (x : P) → length (filter (w.same x) (qs ++ p ∷ [])) ≤ 1
  one_more p qs none before x = rw (filter-append (w.same x) qs (p ∷ [])) (go (w.same x p) refl)
    where
      go : (b : Bool) → w.same x p ≡ b → length (filter (w.same x) qs ++ filter (w.same x) (p ∷ [])) ≤ 1
      go true e = let is : x ≡ p = (laws.equal x p).0 e in rw (e, is, none) (omega arith)
      go false e = rw (e, append-nil (filter (w.same x) qs)) (before x)

  -- a packet that may be taken has an interval above the newest key's
  fresh : (s : State P K) (t : ℕ) (p : P) → Sound w s → Takable w s t p → s.reached < w.interval p
  fresh s t p sound h = elim (cases_lt s.reached (w.interval p)) [
    | inl l ↦ l
    | inr g ↦
        let before : w.early s.latest (w.interval p) ≡ true = laws.early_before t s.latest (w.interval p) h.later h.early in
        let at_reached : w.early s.latest s.reached ≡ true = laws.early_above s.latest (w.interval p) s.reached g before in
        let now : 0 < s.reached = omega (arith, h.from_one) in
        absurd (true≢false (sym at_reached ∙ sound.due now))
  ]

  take_sound : (s : State P K) (t : ℕ) (p : P) → Sound w s → Takable w s t p → Sound w (next w s (takes t p))
  take_sound s t p sound h = record {
    apart = one_more p s.held (none_kept p s.held h.new) sound.apart;
    due = λ on. elim (cases_Bool (w.early t s.reached)) [
      | inl e ↦ absurd (true≢false (sym (laws.early_before t s.latest s.reached h.later e) ∙ sound.due on))
      | inr e ↦ e
    ];
  }

  take_kept : (s : State P K) (ts : List (Taking P)) (os : List (Outcome P)) (t : ℕ) (p : P) → Kept w s ts os → Takable w s t p → Kept w (next w s (takes t p)) (ts ++ record { reading = t; packet = p } ∷ []) os
  take_kept s ts os t p k h = record {
    sound = take_sound s t p k.sound h;
    once = rw pushed (one_more p (packets ts) new k.once);
    order = rw pushed (upto_push_above w.interval s.reached (packets ts) p up ∙ k.order ∙ ap (λ l. gone os ++ l) (sym (upto_push_above w.interval s.reached s.held p up)));
    above = λ m over. rw pushed (filter-append _ (packets ts) (p ∷ []) ∙ ap (λ l. l ++ of_interval w.interval m (p ∷ [])) (k.above m over) ∙ sym (filter-append _ s.held (p ∷ [])));
    still = k.still;
    timely = All-push (Timely w) ts _ k.timely (h.from_one, h.early);
  }
    where
      up : s.reached < w.interval p
      up = fresh s t p k.sound h

      pushed : packets (ts ++ record { reading = t; packet = p } ∷ []) ≡ packets ts ++ p ∷ []
      pushed = map-append _ ts _

      at_interval : (x : P) → w.same p x ≡ true → eqb (w.interval x) (w.interval p) ≡ true
      at_interval x e = eq-eqb _ _ (same_interval p x e)

      new : filter (w.same p) (packets ts) ≡ []
      new = sym (kept_in (w.same p) _ at_interval (packets ts)) ∙ ap (filter (w.same p)) (k.above (w.interval p) up) ∙ kept_in (w.same p) _ at_interval s.held ∙ none_kept p s.held h.new

  -- under a key of the chain, what went out is judged as before
  still_later : (s : State P K) (t : ℕ) (k : K) (j : ℕ) → Adoptable w s t k j → (o : Outcome P) → Still w s o → Still w (next w s (adopts t k j)) o
  still_later s t k j h o before =
      let steps : j - s.reached + (s.reached - w.interval o.packet) ≡ j - w.interval o.packet = omega (arith, h.newer, before.2) in
      let one_key : w.down s.newest (s.reached - w.interval o.packet) ≡ w.down k (j - w.interval o.packet) =
      ap (λ l. w.down l (s.reached - w.interval o.packet)) (sym h.of_chain) ∙ laws.down_down k _ _ ∙ ap (w.down k) steps in
      (before.0 ∙ ap (λ l. w.right l o.packet) one_key, before.1, omega (arith, h.newer, before.2))

  adopt_kept : (s : State P K) (ts : List (Taking P)) (os : List (Outcome P)) (t : ℕ) (k : K) (j : ℕ) → Kept w s ts os → Adoptable w s t k j → Kept w (next w s (adopts t k j)) ts os
  adopt_kept s ts os t k j kept h = record {
    sound = record { apart = kept.sound.apart; due = λ on. h.due };
    once = kept.once;
    order = subst (λ a. upto w.interval a (packets ts) ≡ gone os ++ upto w.interval a s.held) whole (upto_more w.interval s.reached (j - s.reached) (gone os) (packets ts) s.held kept.order kept.above);
    above = λ m over. kept.above m (omega (arith, h.newer));
    still = All-weaker (Still w s) (Still w (next w s (adopts t k j))) (still_later s t k j h) os kept.still;
    timely = kept.timely;
  }
    where
      whole : s.reached + (j - s.reached) ≡ j
      whole = omega (arith, h.newer)

  -- what is put in order interval by interval lies in those intervals
  pub upto_inside : (a : ℕ) (xs : List P) → AllByRecursion (λ x. (1 ≤ w.interval x) × (w.interval x ≤ a)) (upto w.interval a xs)
  upto_inside zero xs = tt
  upto_inside (suc a) xs =
      let before = All-weaker (λ x. (1 ≤ w.interval x) × (w.interval x ≤ a)) (λ x. (1 ≤ w.interval x) × (w.interval x ≤ suc a)) (λ x h. (h.0, omega (arith, h.1))) (upto w.interval a xs) (upto_inside a xs) in
      let here = All-weaker (λ x. eqb (w.interval x) (suc a) ≡ true) (λ x. (1 ≤ w.interval x) × (w.interval x ≤ suc a)) (λ x e. (omega (arith, eqb-true (w.interval x) (suc a) e), omega (arith, eqb-true (w.interval x) (suc a) e))) (of_interval w.interval (suc a) xs) (kept_by_passes _ xs) in
      All-append (λ x. (1 ≤ w.interval x) × (w.interval x ≤ suc a)) (upto w.interval a xs) _ before here

  -- the packet released is of an interval whose key is known
  inside : (s : State P K) (p : P) (v : Bool) → Releasable w s p v → (1 ≤ w.interval p) × (w.interval p ≤ s.reached)
  inside s p v h = (subst (AllByRecursion (λ x. (1 ≤ w.interval x) × (w.interval x ≤ s.reached))) h.first (upto_inside s.reached s.held)).0

  -- and without it, the others that are known are the rest
  rest_known : (s : State P K) (p : P) (v : Bool) → Sound w s → (h : Releasable w s p v) → known w (next w s (releases p v)) ≡ h.rest
  rest_known s p v sound h =
      upto_kept w.interval (λ q. not (w.same p q)) s.reached s.held ∙ ap (filter (λ q. not (w.same p q))) h.first ∙ rw (same_self p) (kept_none (w.same p) h.rest none)
    where
      range : (1 ≤ w.interval p) × (w.interval p ≤ s.reached)
      range = inside s p v h

      counted : filter (w.same p) (p ∷ h.rest) ≡ filter (w.same p) s.held
      counted = ap (filter (w.same p)) (sym h.first) ∙ upto_within w.interval (w.same p) (w.interval p) (same_interval p) s.reached s.held range.0 range.1

      shorter : p ∷ filter (w.same p) h.rest ≡ filter (w.same p) s.held
      shorter = (rw (same_self p) refl) ∙ counted

      none : filter (w.same p) h.rest ≡ []
      none = nil_from_length _ (omega (arith, ap length shorter, sound.apart p))

  release_sound : (s : State P K) (p : P) (v : Bool) → Sound w s → Sound w (next w s (releases p v))
  release_sound s p v sound = record {
    apart = λ q. rw (kept_comm (w.same q) (λ x. not (w.same p x)) s.held) (omega (arith, kept_fewer (λ x. not (w.same p x)) (filter (w.same q) s.held), sound.apart q));
    due = sound.due;
  }

  release_kept : (s : State P K) (ts : List (Taking P)) (os : List (Outcome P)) (p : P) (v : Bool) → Kept w s ts os → Releasable w s p v → Kept w (next w s (releases p v)) ts (os ++ record { packet = p; verdict = v } ∷ [])
  release_kept s ts os p v k h = record {
    sound = release_sound s p v k.sound;
    once = k.once;
    order = k.order ∙ ap (λ l. gone os ++ l) h.first ∙ sym (ap (λ l. l ++ known w (next w s (releases p v))) pushed ∙ append_assoc (gone os) (p ∷ []) _ ∙ ap (λ l. gone os ++ (p ∷ l)) (rest_known s p v k.sound h));
    above = λ m over. k.above m over ∙ sym (kept_comm _ (λ q. not (w.same p q)) s.held ∙ kept_whole (λ q. not (w.same p q)) (λ x. eqb (w.interval x) m) (λ x e. not_from_false (w.same p x) (other m over x e)) s.held);
    still = All-push (Still w s) os _ k.still (h.judged, range.0, range.1);
    timely = k.timely;
  }
    where
      range : (1 ≤ w.interval p) × (w.interval p ≤ s.reached)
      range = inside s p v h

      pushed : gone (os ++ record { packet = p; verdict = v } ∷ []) ≡ gone os ++ p ∷ []
      pushed = map-append _ os _

      other : (m : ℕ) → s.reached < m → (x : P) → eqb (w.interval x) m ≡ true → w.same p x ≡ false
      other m over x e = elim (cases_Bool (w.same p x)) [
        | inl d ↦ absurd (omega (arith, same_interval p x d, eqb-true (w.interval x) m e, range.1))
        | inr d ↦ d
      ]

  -- whatever a receiver does, it stays sound
  pub next_sound : (s : State P K) (d : Deed P K) → Sound w s → Allowed w s d → Sound w (next w s d)
  next_sound s (refuses r) sound h = sound
  next_sound s (takes t p) sound h = take_sound s t p sound h
  next_sound s (adopts t k j) sound h = record { apart = sound.apart; due = λ on. h.due }
  next_sound s (releases p v) sound h = release_sound s p v sound
  next_sound s rests sound h = sound

  step_kept : (s : State P K) (ts : List (Taking P)) (os : List (Outcome P)) (d : Deed P K) → Kept w s ts os → Allowed w s d → Kept w (next w s d) (ts ++ taken_by d) (os ++ given_by d)
  step_kept s ts os (refuses r) k h = rw (append-nil ts, append-nil os) k
  step_kept s ts os (takes t p) k h = rw (append-nil os) (take_kept s ts os t p k h)
  step_kept s ts os (adopts t l j) k h = rw (append-nil ts, append-nil os) (adopt_kept s ts os t l j k h)
  step_kept s ts os (releases p v) k h = rw (append-nil ts) (release_kept s ts os p v k h)
  step_kept s ts os rests k h = rw (append-nil ts, append-nil os) k

  -- the invariant after any deeds
  pub run_kept : (ds : List (Deed P K)) (s : State P K) (ts : List (Taking P)) (os : List (Outcome P)) → Kept w s ts os → AllAllowed w s ds → Kept w (after w s ds) (ts ++ taken ds) (os ++ given ds)
  run_kept [] s ts os k h = rw (append-nil ts, append-nil os) k
  run_kept (d ∷ ds) s ts os k h =
      rw (← append_assoc ts (taken_by d) (taken ds), ← append_assoc os (given_by d) (given ds)) (run_kept ds (next w s d) (ts ++ taken_by d) (os ++ given_by d) (step_kept s ts os d k h.0) h.1)

  -- it holds where nothing is held yet
  pub start_kept : (s : State P K) → Sound w s → s.held ≡ [] → Kept w s [] []
  start_kept s sound empty = record {
    sound = sound;
    once = λ p. omega arith;
    order = upto_nil w.interval s.reached ∙ sym (rw empty (upto_nil w.interval s.reached));
    above = λ m over. rw empty refl;
    still = tt;
    timely = tt;
  }

  -- every earlier newest key is the present one, stepped down
  pub descends : (ds : List (Deed P K)) (s : State P K) → AllAllowed w s ds → (s.reached ≤ (after w s ds).reached) × (w.down (after w s ds).newest ((after w s ds).reached - s.reached) ≡ s.newest)
  descends [] s h = (omega arith, ap (w.down s.newest) (omega arith) ∙ laws.down_none s.newest)
  descends (refuses r ∷ ds) s h = descends ds s h.1
  descends (takes t p ∷ ds) s h = descends ds (next w s (takes t p)) h.1
  descends (adopts t k j ∷ ds) s h =
      let far = descends ds (next w s (adopts t k j)) h.1 in
      let end : State P K = after w (next w s (adopts t k j)) ds in
      let steps : end.reached - s.reached ≡ end.reached - j + (j - s.reached) = omega (arith, far.0, h.0.newer) in
      (omega (arith, far.0, h.0.newer), ap (w.down end.newest) steps ∙ sym (laws.down_down end.newest _ _) ∙ ap (λ l. w.down l (j - s.reached)) far.1 ∙ h.0.of_chain)
  descends (releases p v ∷ ds) s h = descends ds (next w s (releases p v)) h.1
  descends (rests ∷ ds) s h = descends ds s h.1

  -- where no held packet's key is known, none is until the next key
  pub rests_on : (ds : List (Deed P K)) (s : State P K) → Sound w s → AllAllowed w s ds → known w s ≡ [] → (after w s ds).reached ≡ s.reached → known w (after w s ds) ≡ []
  rests_on [] s sound h none end = none
  rests_on (refuses r ∷ ds) s sound h none end = rests_on ds s sound h.1 none end
  rests_on (takes t p ∷ ds) s sound h none end =
      rests_on ds (next w s (takes t p)) (take_sound s t p sound h.0) h.1 (upto_push_above w.interval s.reached s.held p (fresh s t p sound h.0) ∙ none) end
  rests_on (adopts t k j ∷ ds) s sound h none end =
      absurd (omega (arith, (descends ds (next w s (adopts t k j)) h.1).0, h.0.newer, end))
  rests_on (releases p v ∷ ds) s sound h none end = absurd (omega (arith, ap length (sym none ∙ h.0.first)))
  rests_on (rests ∷ ds) s sound h none end = rests_on ds s sound h.1 none end

  module _ (s : State P K) (ts : List (Taking P)) (os : List (Outcome P)) (k : Kept w s ts os) where
    -- how often a packet of a known interval was taken: as often as it went out or is held still
    pub counted : (p : P) → 1 ≤ w.interval p → w.interval p ≤ s.reached → filter (w.same p) (packets ts) ≡ filter (w.same p) (gone os) ++ filter (w.same p) (known w s)
    counted p from to =
        sym (upto_within w.interval (w.same p) (w.interval p) (same_interval p) s.reached (packets ts) from to) ∙ ap (filter (w.same p)) k.order ∙ filter-append (w.same p) (gone os) (known w s)

    module _ (p : P) (v : Bool) (h : Releasable w s p v) where
      counts : length (filter (w.same p) (gone os)) + suc (length (filter (w.same p) h.rest)) ≡ length (filter (w.same p) (packets ts))
      counts =
          let here : filter (w.same p) (known w s) ≡ p ∷ filter (w.same p) h.rest = ap (filter (w.same p)) h.first ∙ rw (same_self p) refl in
          sym (ap length (counted p (inside s p v h).0 (inside s p v h).1 ∙ ap (λ l. filter (w.same p) (gone os) ++ l) here) ∙ length-append (filter (w.same p) (gone os)) _)

      -- the packet released has not gone out before
      pub not_before : filter (w.same p) (gone os) ≡ []
      not_before = nil_from_length _ (omega (arith, counts, k.once p))

      -- and is the one taken packet that fits, for a test that only it fits
      pub one_taken : (fits : P → Bool) → ((x : P) → Decides (fits x) (p ≡ x)) → (x : Taking P) × (filter (λ y. fits y.packet) ts ≡ x ∷ []) × (x.packet ≡ p) × Timely w x
      one_taken fits only =
          let both : filter fits (packets ts) ≡ filter (w.same p) (packets ts) = filter_agree fits (w.same p) (λ x. same_from_decides (fits x) (w.same p x) (only x) (laws.equal p x)) (packets ts) in
          let long : length (filter (λ (y : Taking P). fits y.packet) ts) ≡ length (filter (w.same p) (packets ts)) = sym (length-map _ _) ∙ ap length (kept_map fits (λ (y : Taking P). y.packet) ts ∙ both) in
          let found = one_only (filter (λ (y : Taking P). fits y.packet) ts) (omega (arith, long, counts, k.once p)) in
          let fit : fits found.0.packet ≡ true = (subst (AllByRecursion (λ (y : Taking P). fits y.packet ≡ true)) found.1 (kept_by_passes (λ (y : Taking P). fits y.packet) ts)).0 in
          let timely : Timely w found.0 = (subst (AllByRecursion (Timely w)) found.1 (all_kept_by (λ (y : Taking P). fits y.packet) (Timely w) ts k.timely)).0 in
          (found.0, found.1, sym ((only found.0.packet).0 fit), timely)

    -- what went out, judged by the present key
    judged : (qs : List (Outcome P)) → AllByRecursion (Still w s) qs → qs ≡ map (λ p. record { packet = p; verdict = right_now w s p }) (gone qs)
    judged [] h = refl
    judged (o ∷ qs) h = λ i. record { packet = o.packet; verdict = h.0.0 i } ∷ judged qs h.1 i

    -- where no held packet's key is known, all that was taken of the known intervals went out, in order
    pub all_out : known w s ≡ [] → os ≡ map (λ p. record { packet = p; verdict = right_now w s p }) (upto w.interval s.reached (packets ts))
    all_out none =
        let whole : gone os ≡ upto w.interval s.reached (packets ts) = sym (k.order ∙ ap (λ l. gone os ++ l) none ∙ append-nil (gone os)) in
        judged os k.still ∙ ap (map (λ p. record { packet = p; verdict = right_now w s p })) whole
