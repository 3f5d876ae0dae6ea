use Rattle.std.proofs.Common.{inl, arith}
use Rattle.gauss.specs.Echelon.{bits_in, pivots_in, unknowns_in}
use Rattle.gauss.proofs.Tiles.{tile_value}
use Rattle.gauss.proofs.values.write_tile.Goals as goal

pub returns-clause-tile : goal.returns-clause-tile
returns-clause-tile c = tile_value (unknowns_in c.args.form.now) c.args.tile.len
    (bits_in c.args.form.now) (pivots_in c.args.form.now)
    c.args.sums.now
    c.args.tile.start c.args.tile.size c.load_tile.new.part c.substitute.new.symbols
    c.store_tile.new.values
    c.load_tile.ensures c.substitute.ensures c.store_tile.ensures.tile

pub returns-clause-others : goal.returns-clause-others
returns-clause-others c p t lt lt2 = c.store_tile.ensures.others p t lt
    (omega (arith, lt2, c.requires.tile.within)) (inl lt2)
