use Rattle.std.proofs.Common.{refl}
use Rattle.borsh_codec.specs.Types.Addresses.{ip_view, ipv4, ipv6}
use Rattle.borsh_codec.proofs.Laws.Types.{ipv4-lawful, ipv6-lawful, ip-lawful}
use Rattle.borsh_codec.proofs.DecodeOutcomes.{decodes_no_byte}
use Rattle.borsh_codec.proofs.DecodeSums.{decodes_exit_first, decodes_exit_second, decodes_first, decodes_second}
use Rattle.borsh_de.proofs.addresses.IpAddrBorshDeserialize.deserialize_reader.Goals as goal

pub returns-in_err-tag : goal.returns-in_err-tag
returns-in_err-tag g c = decodes_no_byte ip-lawful refl refl _ c.from_residual.ensures.1 c.in_err-tag.ensures

pub returns-in_err-deserialize_reader-in-0 : goal.returns-in_err-deserialize_reader-in-0
returns-in_err-deserialize_reader-in-0 g c = decodes_exit_first ip_view ipv4-lawful ipv6-lawful _ c.in-0.is c.in_ok-tag.ensures c.from_residual-in_err-deserialize_reader-in-0.ensures.1 c.in_err-deserialize_reader-in-0.ensures

pub returns-in_ok-deserialize_reader-in-0 : goal.returns-in_ok-deserialize_reader-in-0
returns-in_ok-deserialize_reader-in-0 g c = decodes_first ip_view ipv6 refl c.in-0.is c.in_ok-tag.ensures c.in_ok-deserialize_reader-in-0.ensures

pub returns-in_err-deserialize_reader-in-1 : goal.returns-in_err-deserialize_reader-in-1
returns-in_err-deserialize_reader-in-1 g c = decodes_exit_second ip_view ipv4-lawful ipv6-lawful _ c.in-1.is c.in_ok-tag.ensures c.from_residual-in_err-deserialize_reader-in-1.ensures.1 c.in_err-deserialize_reader-in-1.ensures

pub returns-in_ok-deserialize_reader-in-1 : goal.returns-in_ok-deserialize_reader-in-1
returns-in_ok-deserialize_reader-in-1 g c = decodes_second ip_view ipv4 refl c.in-1.is c.in_ok-tag.ensures c.in_ok-deserialize_reader-in-1.ensures
