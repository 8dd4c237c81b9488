-- A request: what it answers, and what it leaves in the buffer.
use Rattle.std.proofs.Common.{◌≡◌, ℕ, ◌^◌, Bool, true, false, cond, leb, List, length, Ok, Err, Result, sym, refl, ap, ◌∙◌}
use Rattle.refusal.specs.declared.Refusal.{Refusal}
use Rattle.refusal.specs.declared.Refusal.TheVariants.{ReadingOutOfOrder, OutOfLimits, BufferTooShort}
use Rattle.packet.specs.Kinds.{Packet, a_request}
use Rattle.packet.specs.Reading.{told}
use Rattle.packet.specs.Writing.{write_packet}
use Rattle.link.specs.Reception.{in_order}
use Rattle.link.specs.Join.{Node, request}
use Rattle.node.specs.Nodes.{to_send, leaves}

module _ (node : Node) (before : List ℕ) where
  pub record Asked (value : Result (Node × ℕ) Refusal) (after : List ℕ) : Type 0 where
    pub says : value ≡ told (to_send node) (request node (length before))
    pub buffer : after ≡ leaves (request node (length before)) before

  as_is : (x : Result Packet Refusal) (value : Result (Node × ℕ) Refusal) (after : List ℕ) → request node (length before) ≡ x → value ≡ told (to_send node) x → after ≡ leaves x before → Asked value after
  as_is x value after is says buffer = record {
    says = says ∙ ap (told (to_send node)) (sym is);
    buffer = buffer ∙ ap (λ y. leaves y before) (sym is);
  }

  pub out_of_order : in_order 0 node.requested ≡ false → Asked (Err ReadingOutOfOrder) before
  unfolding request
  out_of_order e = as_is (Err ReadingOutOfOrder) _ before (rw e refl) refl refl

  pub out_of_limits : in_order 0 node.requested ≡ true → leb node.drift (2 ^ 30) ≡ false → Asked (Err OutOfLimits) before
  unfolding request
  out_of_limits e wide = as_is (Err OutOfLimits) _ before (rw (e, wide) refl) refl refl

  -- the request is written, or finds no room
  asks : in_order 0 node.requested ≡ true → leb node.drift (2 ^ 30) ≡ true → (b : Bool) → leb 9 (length before) ≡ b → request node (length before) ≡ cond b (Ok (a_request (record { nonce = node.nonce }))) (Err BufferTooShort)
  unfolding request
  asks e narrow true room = rw (e, narrow, room) refl
  asks e narrow false room = rw (e, narrow, room) refl

  pub wrote : (w : Result ℕ Refusal) (after : List ℕ) → in_order 0 node.requested ≡ true → leb node.drift (2 ^ 30) ≡ true → w ≡ (write_packet (a_request (record { nonce = node.nonce })) before).0 → after ≡ (write_packet (a_request (record { nonce = node.nonce })) before).1 → Asked (told (λ n. (node, n)) w) after
  wrote w after e narrow written left = go (leb 9 (length before)) refl
    where
      go : (b : Bool) → leb 9 (length before) ≡ b → Asked (told (λ n. (node, n)) w) after
      go true room = as_is _ _ after (asks e narrow true room) (ap (told (λ n. (node, n))) (rw room at written)) (rw room at left)
      go false room = as_is _ _ after (asks e narrow false room) (ap (told (λ n. (node, n))) (rw room at written)) (rw room at left)
