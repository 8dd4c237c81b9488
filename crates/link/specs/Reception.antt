-- What a receiver does with packets and keys, whatever packets, keys and clock are.
use Rattle.std.specs.Prelude.{◌≡◌, ℕ, ◌-◌, ◌^◌, ◌<◌, ◌≤◌, Bool, false, not, ◌&&◌, ◌||◌, List, [], ◌∷◌, ◌++◌, length, filter, nat_le, nat_lt}
use Rattle.std.specs.List.{flat_map}
use Rattle.refusal.specs.declared.Refusal.{Refusal}
use Rattle.refusal.specs.declared.Refusal.TheVariants.{ReadingOutOfOrder, IntervalOutOfRange, TooLate, AlreadyHeld, NoFreePlace, KeyNotNewer, KeyNotDue, KeyNotOfChain}
use Rattle.link.specs.Questions.{Question}
use Rattle.link.specs.Intervals.{upto}

-- what a receiver can tell of packets P and keys K
pub record World (P K : Type 0) : Type 0 where
  pub interval : P → ℕ
  -- the two are equal
  pub same : P → P → Bool
  pub same_key : K → K → Bool
  -- a key after a number of steps down the chain
  pub down : K → ℕ → K
  -- under the chain's key of its interval, the packet's tag is right
  pub right : K → P → Bool
  -- at this reading, the key of this interval cannot be public yet
  pub early : ℕ → ℕ → Bool

-- what changes in a receiver
pub record State (P K : Type 0) : Type 0 where
  -- the latest reading granted
  pub latest : ℕ
  -- the newest key, and its interval
  pub newest : K
  pub reached : ℕ
  -- in the order of taking
  pub held : List P

-- what a receiver does at one call
pub data Deed (P K : Type 0) : Type 0 where
  refuses : Refusal → Deed P K
  -- at a reading, a packet
  takes : ℕ → P → Deed P K
  -- at a reading, a key as the newest, with its interval
  adopts : ℕ → K → ℕ → Deed P K
  -- a packet, and whether its tag is right
  releases : P → Bool → Deed P K
  -- no packet is left whose key is known
  rests : Deed P K

-- below 2 ^ 52, and not before the latest reading
abbrev pub in_order : ℕ → ℕ → Bool
in_order latest t = nat_lt t (2 ^ 52) && nat_le latest t

abbrev pub an_interval : ℕ → Bool
an_interval m = nat_le 1 m && nat_le m 4096

module _ {P K : Type 0} (w : World P K) where
  abbrev pub has : P → List P → Bool
  has p [] = false
  has p (q ∷ qs) = w.same p q || has p qs

  -- all but a packet
  abbrev pub others : P → List P → List P
  others p qs = filter (λ q. not (w.same p q)) qs

  -- the questions of a take and of a key, in their order, once the packet is read
  abbrev pub take_questions : State P K → ℕ → P → List Question
  take_questions s t p =
      (ReadingOutOfOrder, in_order s.latest t)
      ∷ (IntervalOutOfRange, an_interval (w.interval p))
      ∷ (TooLate, w.early t (w.interval p))
      ∷ (AlreadyHeld, not (has p s.held))
      ∷ (NoFreePlace, nat_lt (length s.held) 32)
      ∷ []

  abbrev pub key_questions : State P K → ℕ → K → ℕ → List Question
  key_questions s t k j =
      (ReadingOutOfOrder, in_order s.latest t)
      ∷ (IntervalOutOfRange, an_interval j)
      ∷ (KeyNotNewer, nat_lt s.reached j)
      ∷ (KeyNotDue, not (w.early t j))
      ∷ (KeyNotOfChain, w.same_key (w.down k (j - s.reached)) s.newest)
      ∷ []

  -- the tag of a packet is right under the newest key, stepped down to the packet's interval
  abbrev pub right_now : State P K → P → Bool
  right_now s p = w.right (w.down s.newest (s.reached - w.interval p)) p

  -- the held packets whose key is known, in the order in which they are to go out
  abbrev pub known : State P K → List P
  known s = upto w.interval s.reached s.held

  -- the first of them goes out
  abbrev pub first_out : State P K → List P → Deed P K
  first_out s [] = rests
  first_out s (p ∷ ps) = releases p (right_now s p)

  -- the state that a deed leaves
  abbrev pub next : State P K → Deed P K → State P K
  next s (refuses r) = s
  next s (takes t p) = record { latest = t; newest = s.newest; reached = s.reached; held = s.held ++ p ∷ [] }
  next s (adopts t k j) = record { latest = t; newest = k; reached = j; held = s.held }
  next s (releases p verdict) = record { latest = s.latest; newest = s.newest; reached = s.reached; held = others p s.held }
  next s rests = s

-- a packet taken, and the reading at which it was
pub record Taking (P : Type 0) : Type 0 where
  pub reading : ℕ
  pub packet : P

-- a packet that went out, and whether its tag was right
pub record Outcome (P : Type 0) : Type 0 where
  pub packet : P
  pub verdict : Bool

module _ {P K : Type 0} where
  abbrev pub taken_by : Deed P K → List (Taking P)
  taken_by (refuses r) = []
  taken_by (takes t p) = record { reading = t; packet = p } ∷ []
  taken_by (adopts t k j) = []
  taken_by (releases p verdict) = []
  taken_by rests = []

  abbrev pub given_by : Deed P K → List (Outcome P)
  given_by (refuses r) = []
  given_by (takes t p) = []
  given_by (adopts t k j) = []
  given_by (releases p v) = record { packet = p; verdict = v } ∷ []
  given_by rests = []

  -- the packets taken, and those that went out, in order
  abbrev pub taken : List (Deed P K) → List (Taking P)
  taken deeds = flat_map taken_by deeds

  abbrev pub given : List (Deed P K) → List (Outcome P)
  given deeds = flat_map given_by deeds

  abbrev pub after : World P K → State P K → List (Deed P K) → State P K
  after w s [] = s
  after w s (deed ∷ deeds) = after w (next w s deed) deeds

-- what every receiver has of itself
pub record Sound {P K : Type 0} (w : World P K) (s : State P K) : Type 0 where
  -- the held packets are all different
  pub apart : (p : P) → length (filter (w.same p) s.held) ≤ 1
  -- the newest key was due at the latest reading
  pub due : 0 < s.reached → w.early s.latest s.reached ≡ false
