-- The theorem over every history, put together.
use Rattle.std.proofs.Common.{◌≡◌, ℕ, ◌+◌, ◌-◌, ◌^◌, ◌<◌, ◌≤◌, Bool, true, false, List, [], ◌∷◌, ◌++◌, map, length, ℤ, pos, ◌≤ℤ◌, filter, sym, refl, ap, ◌∙◌, subst, inl, inr, append_assoc, arith}
use mathlib.Core.List.{map-map}
use lib.Signed.{lt_z}
use Rattle.std.specs.List.{ContainsAt, AllByRecursion}
use Rattle.std.specs.Str.{bytes_eq}
use Rattle.std.proofs.lemmas.Slice.Eq.{bytes_eq-Decides}
use Rattle.std.proofs.lemmas.List.Elements.{filter-append}
use Rattle.std.proofs.ByRecursion.{all-has, All-map, All-weaker}
use Rattle.std.proofs.lemmas.List.{map-append, length-append}
use Rattle.std.proofs.lemmas.Int.{ints}
use Rattle.std.proofs.lemmas.Bool.{true≢false, cond-true, cond-false, cases_Bool}
use Rattle.cipher.specs.Blocks.{Make}
use Rattle.cipher.specs.declared.key.Key.{Key}
use Rattle.chain.specs.Chain.{down}
use Rattle.packet.specs.Kinds.{Data}
use Rattle.packet.specs.Layouts.{answer_bytes}
use Rattle.link.specs.Intervals.{upto}
use Rattle.link.specs.Clock.{interval_at, sender_time, early_at}
use Rattle.link.specs.Reception.{World, State, Deed, refuses, takes, adopts, releases, rests, Taking, Outcome, Sound, known, next, right_now, given_by, given}
use Rattle.link.specs.Reception as reception
use Rattle.link.specs.Receiver.{Receiver, Call, to_key, to_release, none, out, out_of, steps, same_packet, world, data_tag, deed, told, answer, then, after, deeds, takings, taken_packets, released}
use Rattle.link.specs.Base.{base_interval}
use Rattle.link.specs.Sender.{Sender, Made}
use Rattle.link.specs.Histories.{GoesOut, fits, KeyPacket, Joined, OneTaken, WentOut, Settled, judged, LinkStands}
use Rattle.link.proofs.Receptions.{Allowed, Releasable, gone, Kept, Still, Timely, run_kept, start_kept, descends, rests_on, counted, not_before, one_taken, all_out}
use Rattle.chain.proofs.ChainLaws.{down_add}
use Rattle.link.proofs.Receivers.{packet_decides, world_laws, deed_allowed, all_allowed, after_is, after_append, deeds_append, released_is}
use Rattle.link.proofs.Asking.{all_behind}
use Rattle.link.proofs.Keeping.{all_fail}
use Rattle.link.proofs.Meanings.{Out, out_means, none_means, steps_means, release_only, fits_only, goes_out_means}
use Rattle.link.proofs.Senders.{undisclosed, chain_down, made_right}
use Rattle.link.proofs.Joins.{OnSchedule, finish_sound, joined_on_schedule}
use Rattle.link.proofs.Granted.{key_granted, key_packet_interval, key_packet_key}

-- what several deeds gave, and the others behind them
given_append : (xs ys : List (Deed Data Key)) → given (xs ++ ys) ≡ given xs ++ given ys
given_append [] ys = refl
given_append (d ∷ xs) ys = ap (λ l. given_by d ++ l) (given_append xs ys) ∙ sym (append_assoc (given_by d) (given xs) (given ys))

-- a packet among those that went out is found there
among_gone : (p : Data) (before behind : List (Outcome Data)) (v : Bool) → filter (same_packet p) (gone (before ++ record { packet = p; verdict = v } ∷ behind)) ≡ [] → ⊥
among_gone p before behind v h =
    let both : filter (same_packet p) (gone before) ++ filter (same_packet p) (p ∷ gone behind) ≡ [] =
    sym (ap (filter (same_packet p)) (map-append _ before _) ∙ filter-append (same_packet p) (gone before) (p ∷ gone behind)) ∙ h in
    let here : filter (same_packet p) (p ∷ gone behind) ≡ p ∷ filter (same_packet p) (gone behind) = cond-true (same_packet p p) _ _ ((packet_decides p p).1 refl) in
    omega (arith, ap length both, length-append (filter (same_packet p) (gone before)) (filter (same_packet p) (p ∷ gone behind)), ap length here)

-- a release among the calls that gives out a packet
record Found (Q : Outcome Data → Type 0) (cipher : Make) (r : Receiver) (calls : List Call) (p : Data) : Type 0 where
  before : List Call
  room : ℕ
  behind : List Call
  verdict : Bool
  split : calls ≡ before ++ to_release room ∷ behind
  does : deed cipher (after cipher r before) (to_release room) ≡ releases p verdict
  among : AllByRecursion Q (given (deeds cipher r calls)) → Q (record { packet = p; verdict = verdict })

found_later : (Q : Outcome Data → Type 0) (cipher : Make) (r : Receiver) (call : Call) (calls : List Call) (p : Data) → Found Q cipher (then cipher r call) calls p → Found Q cipher r (call ∷ calls) p
unfolding then after deed deeds
found_later Q cipher r call calls p f = record {
  before = call ∷ f.before;
  room = f.room;
  behind = f.behind;
  verdict = f.verdict;
  split = ap (λ l. call ∷ l) f.split;
  does = f.does;
  among = λ all. f.among (all_behind Q (given_by (deed cipher r call)) (given (deeds cipher (then cipher r call) calls)) all);
}

found_here : (Q : Outcome Data → Type 0) (cipher : Make) (r : Receiver) (call : Call) (calls : List Call) (p : Data) (v : Bool) → deed cipher r call ≡ releases p v → Found Q cipher r (call ∷ calls) p
unfolding after deed deeds
found_here Q cipher r call calls p v e =
    let is = release_only cipher r call p v e in
    record {
      before = [];
      room = is.0;
      behind = calls;
      verdict = v;
      split = ap (λ c. c ∷ calls) is.1;
      does = subst (λ c. deed cipher r c ≡ releases p v) is.1 e;
      among = λ all. (subst (λ d. AllByRecursion Q (given_by d ++ given (deeds cipher (then cipher r call) calls))) e all).0;
    }

-- what went out did so at a release
find : (Q : Outcome Data → Type 0) (cipher : Make) (calls : List Call) (r : Receiver) (p : Data) → (filter (same_packet p) (gone (given (deeds cipher r calls))) ≡ [] → ⊥) → Found Q cipher r calls p
unfolding deeds
find Q cipher [] r p h = absurd (h refl)
find Q cipher (call ∷ calls) r p h = go (λ n. found_later Q cipher r call calls p (find Q cipher calls (then cipher r call) p n)) (deed cipher r call) refl h
  where
    rest : List (Outcome Data)
    rest = given (deeds cipher (then cipher r call) calls)

    go : ((filter (same_packet p) (gone rest) ≡ [] → ⊥) → Found Q cipher r (call ∷ calls) p) → (d : Deed Data Key) → deed cipher r call ≡ d → (filter (same_packet p) (gone (given_by d ++ rest)) ≡ [] → ⊥) → Found Q cipher r (call ∷ calls) p
    go later (refuses q) e n = later n
    go later (takes t q) e n = later n
    go later (adopts t k j) e n = later n
    go later rests e n = later n
    go later (releases q v) e n = elim (cases_Bool (same_packet p q)) [
      | inl same ↦ found_here Q cipher r call calls p v (e ∙ ap (λ y. releases y v) (sym ((packet_decides p q).0 same)))
      | inr other ↦ later (λ none. n (cond-false (same_packet p q) _ _ other ∙ none))
    ]

module _ (cipher : Make) (r : Receiver) (sound : Sound (world cipher r.clock) r.state) (empty : r.state.held ≡ []) where
  abbrev w : World Data Key
  w = world cipher r.clock

  -- the state after calls
  abbrev state_after : List Call → State Data Key
  state_after calls = reception.after w r.state (deeds cipher r calls)

  abbrev at : List Call → Receiver
  at calls = record { clock = r.clock; state = state_after calls }

  kept : (calls : List Call) → Kept w (state_after calls) (takings cipher r calls) (given (deeds cipher r calls))
  kept calls = run_kept w (world_laws cipher r.clock) (deeds cipher r calls) r.state [] [] (start_kept w (world_laws cipher r.clock) r.state sound empty) (all_allowed cipher calls r)

  -- one taken packet fits a true release
  module _ (x : Sender cipher) (same_interval : (u : ℤ) → interval_at r.clock.schedule u ≡ base_interval x.setup u) (same_delay : r.clock.schedule.delay ≡ x.setup.delay) where
    one : (calls : List Call) (room m number : ℕ) (payload : List ℕ) → answer cipher (after cipher r calls) (to_release room) ≡ out m number payload true → OneTaken x r calls m number payload
    one calls room m number payload h = record {
      taking = found.0;
      only = ap (λ (q : Receiver). filter (λ (y : Taking Data). fits cipher q m number payload y.packet) (takings cipher r calls)) (after_is cipher calls r) ∙ found.1;
      undisclosed = undisclosed x (sender_time r.clock found.0.reading) m from early;
    }
      where
        o : Out cipher (at calls) room m number payload
        o = out_means cipher (at calls) room m number payload (subst (λ (q : Receiver). answer cipher q (to_release room) ≡ out m number payload true) (after_is cipher calls r) h)

        found : (y : Taking Data) × (filter (λ z. fits cipher (at calls) m number payload z.packet) (takings cipher r calls) ≡ y ∷ []) × (y.packet ≡ o.packet) × Timely w y
        found = one_taken w (world_laws cipher r.clock) (state_after calls) (takings cipher r calls) (given (deeds cipher r calls)) (kept calls) o.packet true o.releasable (fits cipher (at calls) m number payload) (fits_only cipher (at calls) room m number payload o)

        interval : found.0.packet.interval ≡ m
        interval = ap (λ (p : Data). p.interval) found.2 ∙ o.interval

        from : 1 ≤ m
        from = subst (λ n. 1 ≤ n) interval found.3.0

        early : lt_z (base_interval x.setup (sender_time r.clock found.0.reading)) (pos (m + x.setup.delay)) ≡ true
        early = sym (λ i. lt_z (same_interval (sender_time r.clock found.0.reading) i) (pos (interval i + same_delay i))) ∙ found.3.1

  once : (before between : List Call) (room room' : ℕ) (p : Data) → GoesOut cipher (after cipher r before) room p → GoesOut cipher (after cipher r (before ++ to_release room ∷ between)) room' p → ⊥
  unfolding deeds
  once before between room room' p first second = among_gone p _ _ true (subst (λ l. filter (same_packet p) (gone l) ≡ []) whole unseen)
    where
      calls : List Call
      calls = before ++ to_release room ∷ between

      does : deed cipher (after cipher r before) (to_release room) ≡ releases p true
      does = (goes_out_means cipher (after cipher r before) room p first).0

      again : Releasable w (state_after calls) p true
      again = (goes_out_means cipher (at calls) room' p (subst (λ (q : Receiver). GoesOut cipher q room' p) (after_is cipher calls r) second)).1

      unseen : filter (same_packet p) (gone (given (deeds cipher r calls))) ≡ []
      unseen = not_before w (world_laws cipher r.clock) (state_after calls) (takings cipher r calls) (given (deeds cipher r calls)) (kept calls) p true again

      whole : given (deeds cipher r calls) ≡ given (deeds cipher r before) ++ record { packet = p; verdict = true } ∷ given (deeds cipher (then cipher (after cipher r before) (to_release room)) between)
      whole =
          ap given (deeds_append cipher before (to_release room ∷ between) r) ∙ given_append (deeds cipher r before) _ ∙ ap (λ d. given (deeds cipher r before) ++ (given_by d ++ given (deeds cipher (then cipher (after cipher r before) (to_release room)) between))) does

  -- after calls that leave no packet whose key is known, all taken packets of the known intervals went out
  pub settled_out : (calls : List Call) → known w (state_after calls) ≡ [] → released cipher r calls ≡ judged cipher (after cipher r calls) (taken_packets cipher r calls)
  settled_out calls nothing =
      rw (after_is cipher calls r) (released_is cipher calls r ∙ ap (map (λ (o : Outcome Data). out_of o.packet o.verdict)) (all_out w (world_laws cipher r.clock) (state_after calls) (takings cipher r calls) (given (deeds cipher r calls)) (kept calls) nothing) ∙ map-map _ _ _)

  -- the state after calls, from the state after the first of them
  state_behind : (before behind : List Call) → state_after (before ++ behind) ≡ reception.after w (state_after before) (deeds cipher (at before) behind)
  state_behind before behind =
      ap (λ (q : Receiver). q.state) (sym (after_is cipher (before ++ behind) r) ∙ after_append cipher before behind r ∙ ap (λ q. after cipher q behind) (after_is cipher before r) ∙ after_is cipher behind (at before))

  settled_known : (calls : List Call) → Settled cipher r calls → known w (state_after calls) ≡ []
  settled_known calls s = subst (λ (q : State Data Key). known w q ≡ []) (sym end) (rests_on w (world_laws cipher r.clock) (deeds cipher (at s.before) rest) (state_after s.before) (kept s.before).sound (all_allowed cipher rest (at s.before)) nothing still)
    where
      rest : List Call
      rest = to_release s.room ∷ s.behind

      end : state_after calls ≡ reception.after w (state_after s.before) (deeds cipher (at s.before) rest)
      end = ap state_after s.split ∙ state_behind s.before rest

      nothing : known w (state_after s.before) ≡ []
      nothing = none_means cipher (at s.before) s.room (subst (λ (q : Receiver). answer cipher q (to_release s.room) ≡ none) (after_is cipher s.before r) s.none_left)

      still : (reception.after w (state_after s.before) (deeds cipher (at s.before) rest)).reached ≡ (state_after s.before).reached
      still = sym (ap (λ (q : State Data Key). q.reached) end) ∙ sym (ap (λ (q : Receiver). q.state.reached) (after_is cipher calls r)) ∙ sym s.same_interval ∙ ap (λ (q : Receiver). q.state.reached) (after_is cipher s.before r)

  listed : (calls : List Call) → Settled cipher r calls → released cipher r calls ≡ judged cipher (after cipher r calls) (taken_packets cipher r calls)
  listed calls s = settled_out calls (settled_known calls s)

  -- a due key of the sender is granted
  granted : (x : Sender cipher) (same_delay : r.clock.schedule.delay ≡ x.setup.delay) (calls : List Call) (t j : ℕ) (bytes : List ℕ)
      → KeyPacket x j bytes
      → (after cipher r calls).state.newest ≡ x.chain (after cipher r calls).state.reached
      → (after cipher r calls).state.reached < j
      → (after cipher r calls).state.latest ≤ t
      → t < 2 ^ 52
      → pos (j + x.setup.delay) ≤ℤ interval_at r.clock.schedule (sender_time r.clock t)
      → answer cipher (after cipher r calls) (to_key t bytes) ≡ steps (j - (after cipher r calls).state.reached)
  granted x same_delay calls t j bytes key newest newer later small due = key_granted x (after cipher r calls) t j bytes key newest newer later small not_early
    where
      here : early_at r.clock t j ≡ false
      here = sym (omega (arith, ints, same_delay))

      not_early : early_at (after cipher r calls).clock t j ≡ false
      not_early = ap (λ (q : Receiver). early_at q.clock t j) (after_is cipher calls r) ∙ here

  -- the sender's packets up to the interval of a key of the sender went out as true, once none is left
  module _ (x : Sender cipher) (before between : List Call) (t room j count : ℕ) (bytes : List ℕ) (p : Data) (key : KeyPacket x j bytes)
      (adopted : answer cipher (after cipher r before) (to_key t bytes) ≡ steps count)
      (finished : answer cipher (after cipher r (before ++ to_key t bytes ∷ between)) (to_release room) ≡ none)
      (was_taken : ContainsAt (taken_packets cipher r (before ++ to_key t bytes ∷ between)) p) (made : Made x p) (reached : p.interval ≤ j) where
    abbrev calls : List Call
    calls = before ++ to_key t bytes ∷ between

    -- the state in which the key is the newest
    abbrev keyed : State Data Key
    keyed = next w (state_after before) (adopts t (x.chain j) j)

    nothing_known : known w (state_after calls) ≡ []
    nothing_known = none_means cipher (at calls) room (subst (λ (q : Receiver). answer cipher q (to_release room) ≡ none) (after_is cipher calls r) finished)

    does : deed cipher (at before) (to_key t bytes) ≡ adopts t (x.chain j) j
    does = steps_means cipher (at before) t count bytes (subst (λ (q : Receiver). answer cipher q (to_key t bytes) ≡ steps count) (after_is cipher before r) adopted) ∙ (λ i. adopts t (key_packet_key x j bytes key i) (key_packet_interval x j bytes key i))

    -- from then on
    end : state_after calls ≡ reception.after w keyed (deeds cipher (record { clock = r.clock; state = keyed }) between)
    unfolding deeds then
    end = state_behind before (to_key t bytes ∷ between) ∙ ap (λ d. reception.after w (next w (state_after before) d) (deeds cipher (record { clock = r.clock; state = next w (state_after before) d }) between)) does

    far : (j ≤ (state_after calls).reached) × (down cipher (state_after calls).newest ((state_after calls).reached - j) ≡ x.chain j)
    far = subst (λ (q : State Data Key). (j ≤ q.reached) × (down cipher q.newest (q.reached - j) ≡ x.chain j)) (sym end) (descends w (world_laws cipher r.clock) (deeds cipher (record { clock = r.clock; state = keyed }) between) keyed (all_allowed cipher between (record { clock = r.clock; state = keyed })))

    from_one : 1 ≤ p.interval
    from_one = all-has (λ (q : Data). 1 ≤ q.interval) (taken_packets cipher r calls) p (All-map (λ (q : Data). 1 ≤ q.interval) (λ (y : Taking Data). y.packet) (takings cipher r calls) (All-weaker (Timely w) (λ (y : Taking Data). 1 ≤ y.packet.interval) (λ y h. h.0) (takings cipher r calls) (kept calls).timely)) was_taken

    -- the newest key steps down to the chain's key of the packet's interval, so the tag is right
    right_at_end : right_now w (state_after calls) p ≡ true
    right_at_end = (bytes_eq-Decides p.tag _).1 (made_right x p made ∙ ap (λ k. data_tag cipher k p) (sym down_to))
      where
        steps_between : (state_after calls).reached - j + (j - p.interval) ≡ (state_after calls).reached - p.interval
        steps_between = omega (arith, far.0, reached)

        down_to : down cipher (state_after calls).newest ((state_after calls).reached - p.interval) ≡ x.chain p.interval
        down_to = ap (down cipher (state_after calls).newest) (sym steps_between) ∙ sym (down_add cipher (state_after calls).newest _ _) ∙ ap (λ k. down cipher k (j - p.interval)) far.1 ∙ chain_down x p.interval j reached key.to_last

    went : filter (same_packet p) (gone (given (deeds cipher r calls))) ≡ [] → ⊥
    went gone_none =
        let both = counted w (world_laws cipher r.clock) (state_after calls) (takings cipher r calls) (given (deeds cipher r calls)) (kept calls) p from_one (omega (arith, far.0, reached)) in
        let no_taken : filter (same_packet p) (taken_packets cipher r calls) ≡ [] = both ∙ (λ i. gone_none i ++ filter (same_packet p) (nothing_known i)) in
        let fails = all-has (λ q. same_packet p q ≡ false) (taken_packets cipher r calls) p (all_fail (same_packet p) (taken_packets cipher r calls) no_taken) was_taken in
        true≢false (sym ((packet_decides p p).1 refl) ∙ fails)

    went_out : WentOut x r calls p
    unfolding answer deed
    went_out = record { before = f.before; room = f.room; behind = f.behind; split = f.split; out = record { answers = ap (told there.state) f.does ∙ ap (out_of p) so; right = sym allowed.judged ∙ so } }
      where
        f : Found (Still w (state_after calls)) cipher r calls p
        f = find (Still w (state_after calls)) cipher calls r p went

        there : Receiver
        there = after cipher r f.before

        so : f.verdict ≡ true
        so = (f.among (kept calls).still).0 ∙ right_at_end

        allowed : Releasable (world cipher there.clock) there.state p f.verdict
        allowed = subst (Allowed (world cipher there.clock) there.state) f.does (deed_allowed cipher there (to_release f.room))

-- for every block, every sender and every history
pub link_stands : LinkStands
link_stands cipher x r j = record {
  safe = record { one = one cipher r sound empty x on.intervals on.delay; once = once cipher r sound empty };
  nothing_lost = record { out = went_out cipher r sound empty x; granted = granted cipher r sound empty x on.delay };
  agreeing = record { listed = listed cipher r sound empty; agreed = agreed };
}
  where
    sound : Sound (world cipher r.clock) r.state
    sound = (finish_sound cipher j.node j.reading (answer_bytes j.said) r j.finished).0

    empty : r.state.held ≡ []
    empty = (finish_sound cipher j.node j.reading (answer_bytes j.said) r j.finished).1

    on : OnSchedule x r
    on = joined_on_schedule x r j

    agreed : (r' : Receiver) → Joined x r' → (calls calls' : List Call)
        → Settled cipher r calls → Settled cipher r' calls'
        → taken_packets cipher r calls ≡ taken_packets cipher r' calls'
        → (after cipher r calls).state.newest ≡ (after cipher r' calls').state.newest
        → (after cipher r calls).state.reached ≡ (after cipher r' calls').state.reached
        → released cipher r calls ≡ released cipher r' calls'
    agreed r' j' calls calls' s s' packets_same newest reached =
        let other = finish_sound cipher j'.node j'.reading (answer_bytes j'.said) r' j'.finished in
        listed cipher r sound empty calls s ∙ (λ i. map (λ p. out_of p (bytes_eq p.tag (data_tag cipher (down cipher (newest i) (reached i - p.interval)) p))) (upto (λ (p : Data). p.interval) (reached i) (packets_same i))) ∙ sym (listed cipher r' other.0 other.1 calls' s')
