use Rattle.std.proofs.Common.{refl}
use Rattle.borsh_check_lines.proofs.containers.container_from.Goals as goal

pub returns-clause-ok : goal.returns-clause-ok
returns-clause-ok c = c.from_slice.ensures.canonical refl refl
