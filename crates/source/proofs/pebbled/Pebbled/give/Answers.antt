-- What a call gives, from the places of the levels.
use Rattle.std.proofs.Common.{◌≡◌, ℕ, ◌+◌, ◌*◌, ◌^◌, ◌<◌, ◌≤◌, map, refl, arith}
use Rattle.cipher.specs.Blocks.{Make}
use Rattle.cipher.specs.declared.block.Block.{Ghosts}
use Rattle.cipher.specs.declared.key.Key.{Key}
use Rattle.chain.specs.Chain.{step}
use Rattle.pebbles.specs.Levels.{Levels, lowered, lowering_steps}
use Rattle.pebbles.proofs.Forms.{Midway, gives_away, gives_odd, gives_refill, moves_two, placed_even, placed_odd}
use Rattle.pebbles.proofs.Ready.{refill_place}
use Rattle.source.specs.declared.pebbled.Pebbled.{Pebbled}
use Rattle.source.specs.Chains.{no_level}
use Rattle.source.specs.Sizes.{few_at_most}
use Rattle.source.specs.Sources.{no_key}
use Rattle.source.proofs.DrawnCalls.{draw_given}
use Rattle.source.proofs.pebbled.Pebbled.give.Goals as goal

pub lower_levels-steps-requires : goal.lower_levels-steps-requires
lower_levels-steps-requires g c =
    let p = c.args.self.now in moves_two no_key p.size.bits 12 p.size.least (omega arith) p.size.most p.given p.within p.levels p.placed

-- the call, by what lowering its levels ensures
midway : {B : Type 0} {b : Ghosts B} (make : Make) (p : Pebbled B b) {low : Levels Key} {spent : ℕ} → p.given < 2 ^ p.size.bits
    → record { levels : low ≡ map (lowered (step make)) p.levels; steps : spent ≡ lowering_steps p.levels; few : spent ≤ 2 * 12 }
    → Midway no_key (step make) p.size.bits 12 p.given p.levels low spent
midway make p more lower =
    record { some = p.size.least; small = omega arith; fits = p.size.most; more = more; placed = p.placed; is = lower.levels; counted = lower.steps }

-- ---- an odd place

pub invariant_of-self-clause-placed : goal.invariant_of-self-clause-placed
invariant_of-self-clause-placed g c =
    let mid = midway g.B.Block.make c.args.self.now c.requires c.lower_levels-steps.ensures in
    placed_odd mid (omega arith)

pub returns-then-place-eq1-clause-rule : goal.returns-then-place-eq1-clause-rule
returns-then-place-eq1-clause-rule g c =
    let mid = midway g.B.Block.make c.args.self.now c.requires c.lower_levels-steps.ensures in
    gives_odd mid no_level _ _ _ (omega arith) refl c.below.ensures.key c.below.ensures.steps

pub returns-then-place-eq1-clause-draw : goal.returns-then-place-eq1-clause-draw
returns-then-place-eq1-clause-draw g c = draw_given g.B.Block.make c.args.self.now _ _ c.requires (returns-then-place-eq1-clause-rule g c) refl refl

-- ---- an even place, whose level goes on

pub refilled-requires : goal.refilled-requires
refilled-requires g c =
    let p = c.args.self.now in
    let at = refill_place p.size.bits (p.given + 1) (omega arith) (omega arith) (omega arith) (omega arith) (omega arith) in
    record { most = omega (arith, few_at_most p.size.bits p.size.most); even = omega arith; some = omega arith }

pub invariant_of-self-then-place-stride-clause-placed : goal.invariant_of-self-then-place-stride-clause-placed
invariant_of-self-then-place-stride-clause-placed g c =
    let mid = midway g.B.Block.make c.args.self.now c.requires c.lower_levels-steps.ensures in
    let gives = gives_refill mid no_level _ _ (omega arith) c.index_of-served.ensures.level c.stride_of-stride.ensures.power _ (omega arith) c.refilled.ensures in
    placed_even mid gives

pub returns-then-place-stride-clause-rule : goal.returns-then-place-stride-clause-rule
returns-then-place-stride-clause-rule g c =
    let mid = midway g.B.Block.make c.args.self.now c.requires c.lower_levels-steps.ensures in
    gives_refill mid no_level _ _ (omega arith) c.index_of-served.ensures.level c.stride_of-stride.ensures.power _ (omega arith) c.refilled.ensures

pub returns-then-place-stride-clause-draw : goal.returns-then-place-stride-clause-draw
returns-then-place-stride-clause-draw g c = draw_given g.B.Block.make c.args.self.now _ _ c.requires (returns-then-place-stride-clause-rule g c) refl refl

-- ---- an even place, whose level is put away

pub invariant_of-self-else-place-stride-clause-placed : goal.invariant_of-self-else-place-stride-clause-placed
invariant_of-self-else-place-stride-clause-placed g c =
    let mid = midway g.B.Block.make c.args.self.now c.requires c.lower_levels-steps.ensures in
    let gives = gives_away mid no_level _ _ (omega arith) c.index_of-served.ensures.level c.stride_of-stride.ensures.power (omega arith) in
    placed_even mid gives

pub returns-else-place-stride-clause-rule : goal.returns-else-place-stride-clause-rule
returns-else-place-stride-clause-rule g c =
    let mid = midway g.B.Block.make c.args.self.now c.requires c.lower_levels-steps.ensures in
    gives_away mid no_level _ _ (omega arith) c.index_of-served.ensures.level c.stride_of-stride.ensures.power (omega arith)

pub returns-else-place-stride-clause-draw : goal.returns-else-place-stride-clause-draw
returns-else-place-stride-clause-draw g c = draw_given g.B.Block.make c.args.self.now _ _ c.requires (returns-else-place-stride-clause-rule g c) refl refl
