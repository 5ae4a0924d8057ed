-- Each turn lays one stroke more over the band.
use Rattle.std.proofs.Common.{◌≡◌, ◌∙◌, ap, ap₂, arith, rules, List, ℕ, ◌-◌, ◌*◌, length, get_or, replicate, ℤ}
use Rattle.band.specs.Band.{band_call}
use Rattle.bits.specs.Bits.{packed_length}
use Rattle.setting_list.specs.Settings.{setting_at}
use Rattle.drawing.specs.Strokes.{drawing_of, path_of}
use Rattle.drawing.specs.Film.{band_up_to}
use Rattle.drawing.proofs.Drawable.{band_passes, aperture_small}
use Rattle.film_band.proofs.Layers.{band_more, band_none}
use Rattle.film_band.proofs.laid.draw.Goals as goal

pub loop-k-init : goal.loop-k-init
loop-k-init c =
    let a = c.args in
    let d = drawing_of a.settings.now a.apertures.now a.starts.now a.entries.now in
    let n : length a.bytes.now ≡ a.n * packed_length a.columns = c.requires.room ∙ ap (λ (w : ℕ). a.n * w) c.requires.drawn.wide in
    c.fill.ensures.after (λ y e. search rules) ∙ ap (λ (m : ℕ). replicate m 0) n ∙ band_none d a.columns a.rows a.first a.n

-- the aperture of stroke k is one of those that are held
pub lay_stroke-requires-clause-low : goal.lay_stroke-requires-clause-low
lay_stroke-requires-clause-low c =
    let a = c.args in
    let d = drawing_of a.settings.now a.apertures.now a.starts.now a.entries.now in
    (aperture_small d a.columns a.rows (band_passes d a.columns a.rows a.first a.n c.requires.drawn.passed).film c.loop-k.k c.loop-k-test.true).0

pub lay_stroke-requires-clause-high : goal.lay_stroke-requires-clause-high
lay_stroke-requires-clause-high c =
    let a = c.args in
    let d = drawing_of a.settings.now a.apertures.now a.starts.now a.entries.now in
    let h = aperture_small d a.columns a.rows (band_passes d a.columns a.rows a.first a.n c.requires.drawn.passed).film c.loop-k.k c.loop-k-test.true in
    omega (arith, h.1)

pub loop-k-preserved : goal.loop-k-preserved
loop-k-preserved c =
    let a = c.args in
    let d = drawing_of a.settings.now a.apertures.now a.starts.now a.entries.now in
    let l = c.loop-k in
    let σ = setting_at a.settings.now (get_or a.apertures.now l.k 0 - 10) in
    let p = band_passes d a.columns a.rows a.first a.n c.requires.drawn.passed in
    c.lay_stroke.ensures
    ∙ ap₂ (λ (p : List ℤ) (b : List ℕ). (band_call σ p a.columns a.rows a.first a.n a.width b).list) c.path_of-path.ensures l.invariant
    ∙ ap (λ (w : ℕ). (band_call σ (path_of a.starts.now a.entries.now l.k) a.columns a.rows a.first a.n w (band_up_to d a.columns a.rows a.first a.n l.k)).list) c.requires.drawn.wide
    ∙ band_more d a.columns a.rows a.first a.n p l.k c.loop-k-test.true
