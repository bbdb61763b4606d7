use Rattle.std.proofs.Common.{ap}
use mathlib.Core.Bool.{not}
use Rattle.borsh_json.proofs.FallenLaws.{numbers_fall, others_fall}
use Rattle.borsh_json.proofs.order.falls.Goals as goal

pub returns-in-Number : goal.returns-in-Number
returns-in-Number c = numbers_fall c.in-Number.field-0 c.in-Number.is_signed c.args.order c.args.first.now c.args.second.now c.compare_numbers.result c.is_lt.result (not c.is_lt.result) c.in-Number.is c.compare_numbers.ensures c.is_lt.ensures (λ e. ap not e) (λ e. ap not e)

pub returns-in_default : goal.returns-in_default
returns-in_default c = others_fall c.args.order c.args.first.now c.args.second.now c.eq.result (λ k s e. c.in_default.not-Number k s e) c.eq.ensures
