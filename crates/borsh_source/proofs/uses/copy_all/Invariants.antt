use Rattle.std.proofs.Common.{◌≡◌, map, take}
use Rattle.borsh_source.specs.Views.{stands}
use Rattle.borsh_source.proofs.uses.copy_all.Given as goal

abbrev pub invariant-loop-stands : goal.invariant-loop-stands
invariant-loop-stands l = map stands l.copies.items ≡ map stands (take l.stands-index l.given)
