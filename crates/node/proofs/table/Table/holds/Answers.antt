use Rattle.std.proofs.Common.{◌≡◌, ◌||◌, List, [], ◌∷◌, map, refl, ap, ◌∙◌, rules, tests}
use Rattle.std.specs.List.{list_any}
use Rattle.std.proofs.lemmas.Iterator.{YieldsList-from_slice}
use Rattle.std.proofs.lemmas.Iterator.Search.{any_from_yields_List}
use Rattle.cipher.specs.declared.key.Key.{Key}
use Rattle.packet.specs.Kinds.{Data, data_said}
use Rattle.link.specs.Reception.{World, has}
use Rattle.link.specs.Receiver.{same_packet, world}
use Rattle.node.specs.declared.slot.Slot.{Slot}
use Rattle.node.specs.Places.{slot_said}
use Rattle.node.proofs.table.Table.holds.Goals as goal

-- a packet is among those that places mean
any_has : (w : World Data Key) (p : Data) (slots : List Slot) → list_any (λ s. w.same p (slot_said s)) slots ≡ has w p (map slot_said slots)
any_has w p [] = refl
any_has w p (s ∷ slots) = ap (λ b. w.same p (slot_said s) || b) (any_has w p slots)

pub returns : goal.returns
returns c = λ cipher clock.
    let slots = c.taken.result.now in
    let p = data_said c.args.packet.now in
    let found = any_from_yields_List (λ s. same_packet p (slot_said s)) _ _ c.any.result c.any.ensures.ran (YieldsList-from_slice slots cc) (λ x b q k. search (rules, tests)) in
    found ∙ any_has (world cipher clock) p slots ∙ ap (has (world cipher clock) p) c.taken.ensures
