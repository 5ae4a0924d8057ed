-- The band's answer, its three numbers in one.
use Rattle.host_band.specs.Call.{setting}
use Rattle.host_band.proofs.Fits.{band_told}
use Rattle.host_band.proofs.answer.of_entries.Goals as goal

pub returns : goal.returns
returns c =
    let a = c.args in
    let q = a.call in
    band_told (setting q) a.path.now q.columns q.rows q.first q.n q.stride a.bytes.now c.code.ensures c.lay-a.ensures
