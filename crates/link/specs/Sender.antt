-- The sender: a base whose two sources mean one chain, with any run of calls since its making.
use Rattle.std.specs.Prelude.{◌≡◌, ℕ, ◌+◌, ◌<◌, ◌≤◌, true, List, ◌∷◌, ℤ, pos, ◌≤ℤ◌, Ok}
use Rattle.std.specs.List.{AllByRecursion}
use Rattle.cipher.specs.Blocks.{Make}
use Rattle.cipher.specs.Keys.{key_bytes}
use Rattle.cipher.specs.declared.key.Key.{Key}
use Rattle.chain.specs.Chain.{step}
use Rattle.packet.specs.Kinds.{Data, Disclosure, Answer, a_data, a_key, an_answer}
use Rattle.link.specs.Join.{schedule_fits, key_was_due}
use Rattle.link.specs.Base.{Setup, Base, Errand, in_limits, unused, asked_at, base_interval, reply, base_after}

pub record Sender (cipher : Make) : Type 0 where
  pub setup : Setup
  pub limits : in_limits setup ≡ true
  pub two : 2 ≤ setup.count
  pub most : setup.count ≤ 4096
  -- K_0 to K_n, each a step below the next
  pub chain : ℕ → Key
  pub steps : (m : ℕ) → m < setup.count → chain m ≡ step cipher (chain (m + 1))
  pub commitment : setup.commitment ≡ chain 0
  pub making : (m : ℕ) → 1 ≤ m → m ≤ setup.count → setup.making m ≡ chain m
  pub disclosing : (m : ℕ) → 1 ≤ m → m ≤ setup.count → setup.disclosing m ≡ chain m

module _ {cipher : Make} (x : Sender cipher) where
  -- the sender's base after a run
  abbrev pub ran : List Errand → Base
  ran run = base_after (unused x.setup) run

  -- after some run, the sender made this packet
  pub record Made (p : Data) : Type 0 where
    pub run : List Errand
    pub errand : Errand
    pub wrote : reply cipher (ran run) errand ≡ Ok (a_data p)

  -- after some run, it wrote this answer
  pub record Answered (a : Answer) : Type 0 where
    pub run : List Errand
    pub errand : Errand
    pub wrote : reply cipher (ran run) errand ≡ Ok (an_answer a)

  -- a call of a run writes no key but of intervals below m
  pub record KeysBelow (m : ℕ) (run : List Errand) (errand : Errand) : Type 0 where
    pub disclosed : (d : Disclosure) → reply cipher (ran run) errand ≡ Ok (a_key d) → d.interval < m
    pub answered : (a : Answer) → reply cipher (ran run) errand ≡ Ok (an_answer a) → a.interval < m

  -- whatever the sender was asked at readings up to u, it wrote no key but of intervals below m
  abbrev pub Undisclosed : ℤ → ℕ → Type 0
  Undisclosed u m = (run : List Errand) (errand : Errand) → AllByRecursion (λ e. pos (asked_at e) ≤ℤ u) (errand ∷ run) → KeysBelow m run errand

  -- a key written is the chain's key of its interval, and that is 0 or was due at the reading
  pub record InTime (interval : ℕ) (key : List ℕ) (s : ℕ) : Type 0 where
    pub within : interval ≤ x.setup.count
    pub of_chain : key ≡ key_bytes (x.chain interval)
    pub due : 0 < interval → pos (interval + x.setup.delay) ≤ℤ base_interval x.setup (pos s)

  pub record DisclosesInTime : Type 0 where
    pub disclosed : (run : List Errand) (errand : Errand) (d : Disclosure) → reply cipher (ran run) errand ≡ Ok (a_key d) → InTime d.interval d.key (asked_at errand)
    pub answered : (run : List Errand) (errand : Errand) (a : Answer) → reply cipher (ran run) errand ≡ Ok (an_answer a) → InTime a.interval a.key (asked_at errand)

  -- an answer of the sender passes the questions on its schedule and its key
  pub record Welcomed (a : Answer) : Type 0 where
    pub fits : schedule_fits a ≡ true
    pub due : key_was_due a ≡ true

abbrev pub KeysInTime : Type 0
KeysInTime = (cipher : Make) (x : Sender cipher) → DisclosesInTime x

abbrev pub AnswersPass : Type 0
AnswersPass = (cipher : Make) (x : Sender cipher) (a : Answer) → Answered x a → Welcomed x a
