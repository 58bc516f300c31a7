use Rattle.std.proofs.Common.{◌≡◌, length, refl, ◌∙◌, subst, arith}
use Rattle.mapf_distance.specs.Distances.{AreDistances}
use Rattle.mapf_distance.specs.Wave.{IsWave, source_of}
use Rattle.mapf_distance.proofs.StartLemmas.{wave_start}
use Rattle.mapf_distance.proofs.WaveLemmas.{wave_end}
use Rattle.mapf_distance.proofs.wave.table.Goals as goal

pub spread-requires-clause-wave : goal.spread-requires-clause-wave
spread-requires-clause-wave c =
    rw (c.reach.ensures.table, c.reach.ensures.reached, c.in_ok-with_capacity.ensures.items, c.in_ok-table.ensures.entries)
    (wave_start c.args.grid.now c.args.goal c.unreached.ensures.shape c.requires)

pub returns-clause-exact : goal.returns-clause-exact
returns-clause-exact c =
    let reached = c.spread.new.self.reached.items in
    let table = c.spread.new.self.table.items in
    let count : c.spread.new.self.reached.len ≡ length reached = omega (arith, c.spread.new.self.reached.ok.0) in
    let wave = subst (λ n. IsWave c.args.grid.now n table reached) count c.spread.ensures.wave in
    let source : source_of reached ≡ c.args.goal =
    c.spread.ensures.source ∙ rw (c.reach.ensures.reached, c.in_ok-with_capacity.ensures.items) refl in
    subst (λ goal. AreDistances c.args.grid.now goal table) source (wave_end c.args.grid.now table reached wave)
