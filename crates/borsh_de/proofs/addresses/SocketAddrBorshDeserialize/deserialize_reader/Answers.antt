use Rattle.std.proofs.Common.{refl}
use Rattle.borsh_codec.specs.Types.Addresses.{socket_view, socket_v4, socket_v6}
use Rattle.borsh_codec.proofs.Laws.Types.{socket_v4-lawful, socket_v6-lawful, socket-lawful}
use Rattle.borsh_codec.proofs.DecodeOutcomes.{decodes_no_byte}
use Rattle.borsh_codec.proofs.DecodeSums.{decodes_exit_first, decodes_exit_second, decodes_first, decodes_second}
use Rattle.borsh_de.proofs.addresses.SocketAddrBorshDeserialize.deserialize_reader.Goals as goal

pub returns-in_err-tag : goal.returns-in_err-tag
returns-in_err-tag g c = decodes_no_byte socket-lawful refl refl _ c.from_residual.ensures.1 c.in_err-tag.ensures

pub returns-in_err-deserialize_reader-in-0 : goal.returns-in_err-deserialize_reader-in-0
returns-in_err-deserialize_reader-in-0 g c = decodes_exit_first socket_view socket_v4-lawful socket_v6-lawful _ c.in-0.is c.in_ok-tag.ensures c.from_residual-in_err-deserialize_reader-in-0.ensures.1 c.in_err-deserialize_reader-in-0.ensures

pub returns-in_ok-deserialize_reader-in-0 : goal.returns-in_ok-deserialize_reader-in-0
returns-in_ok-deserialize_reader-in-0 g c = decodes_first socket_view socket_v6 refl c.in-0.is c.in_ok-tag.ensures c.in_ok-deserialize_reader-in-0.ensures

pub returns-in_err-deserialize_reader-in-1 : goal.returns-in_err-deserialize_reader-in-1
returns-in_err-deserialize_reader-in-1 g c = decodes_exit_second socket_view socket_v4-lawful socket_v6-lawful _ c.in-1.is c.in_ok-tag.ensures c.from_residual-in_err-deserialize_reader-in-1.ensures.1 c.in_err-deserialize_reader-in-1.ensures

pub returns-in_ok-deserialize_reader-in-1 : goal.returns-in_ok-deserialize_reader-in-1
returns-in_ok-deserialize_reader-in-1 g c = decodes_second socket_view socket_v4 refl c.in-1.is c.in_ok-tag.ensures c.in_ok-deserialize_reader-in-1.ensures
