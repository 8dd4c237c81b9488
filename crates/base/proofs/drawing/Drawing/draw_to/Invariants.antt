use Rattle.std.proofs.Common.{◌≡◌, ℕ, ◌-◌, ◌≤◌}
use Rattle.cipher.specs.declared.key.Key.{Key}
use Rattle.base.specs.Keys.{Serves}
use Rattle.base.proofs.drawing.Drawing.draw_to.Given as goal

abbrev pub invariant-loop-self : goal.invariant-loop-self
invariant-loop-self g l =
    let source = g.S.KeySource.meaning in
    ((source l.self.source).count ≡ (source l.initial.self.source).count)
    × ((source l.initial.self.source).drawn ≤ l.interval → (source l.self.source).drawn ≤ l.interval)
    × ((zeroth : Key) (n : ℕ) (key : ℕ → Key) → Serves source l.initial.self zeroth n key → Serves source l.self zeroth n key)

abbrev pub decreases-loop-self : goal.decreases-loop-self
decreases-loop-self g l = l.interval - (g.S.KeySource.meaning l.self.source).drawn
