use Rattle.borsh_codec.proofs.PutSteps.{puts_then}
use Rattle.borsh_walks.proofs.codec.DefinitionBorshSerialize.put.Goals as goal

pub returns-in_ok-second-in-Enum : goal.returns-in_ok-second-in-Enum
returns-in_ok-second-in-Enum c =
    rw c.in-Enum.is (puts_then c.in_ok-first-in-Enum.first c.in_ok-second-in-Enum.second _ c.args.room.now c.put_bytes-in-Enum.new.room c.put_two.new.room c.in_ok-first-in-Enum.ensures c.in_ok-second-in-Enum.ensures)
