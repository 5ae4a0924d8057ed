-- The rows before the tile are laid over the bytes, and each turn lays those of one tile: all that are left where that is fewer than a tile has.
use Rattle.std.proofs.Common.{ℕ, ◌+◌, ◌≡◌, ap, ◌∙◌, arith}
use Rattle.plane.specs.Point.{corners}
use Rattle.bits.specs.Bits.{blackened}
use Rattle.band.specs.Rows.{shaped, path_black}
use Rattle.band.proofs.Layers.{laid_none, laid_after}
use Rattle.band.proofs.tiles.lay_tiles.Goals as goal

pub loop-t-init : goal.loop-t-init
loop-t-init c =
    let a = c.args in
    record {
      before = c.requires.part.ordered;
      laid = laid_none (path_black (corners a.count a.xs.now a.ys.now) a.path.now) a.s a.from a.from a.bytes.now (λ j x h k. absurd (omega arith));
    }

pub loop-t-preserved : goal.loop-t-preserved
loop-t-preserved c =
    let a = c.args in
    let t = c.loop-t.t in
    let black = path_black (corners a.count a.xs.now a.ys.now) a.path.now in
    let end : t + c.min.result ≡ t + c.height-height.result = omega arith in
    record {
      before = omega arith;
      laid =
          c.lay_path.ensures ∙ ap (λ (e : ℕ). blackened (shaped black a.s t e) c.loop-t.bytes) end
          ∙ laid_after black a.s a.from t (t + c.height-height.result) a.bytes.now c.loop-t.auto.t (omega arith) c.loop-t.invariant.laid;
    }

pub returns-2 : goal.returns-2
returns-2 c =
    let a = c.args in
    let t = c.loop-t.t in
    let black = path_black (corners a.count a.xs.now a.ys.now) a.path.now in
    let end : t + c.min.result ≡ a.to = omega arith in
    c.lay_path.ensures ∙ ap (λ (e : ℕ). blackened (shaped black a.s t e) c.loop-t.bytes) end
    ∙ laid_after black a.s a.from t a.to a.bytes.now c.loop-t.auto.t c.loop-t.invariant.before c.loop-t.invariant.laid
