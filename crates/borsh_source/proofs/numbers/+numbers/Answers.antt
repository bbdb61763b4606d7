use Rattle.std.proofs.Common.{sym, ◌∙◌, ap, subst, Some}
use Rattle.borsh_source.specs.Numbers.{IsNumber, literal, name, binary, parameter, constant}
use Rattle.borsh_source.specs.Views.{IsFound, source_of, parameters_of, given_in, stands}
use Rattle.borsh_source.proofs.Results.{ok_map, evaluates_outside}
use Rattle.borsh_source.proofs.numbers.+numbers.Goals as goal

pub value_of-returns-in-Number : goal.value_of-returns-in-Number
value_of-returns-in-Number t c = literal (sym c.in-Some.ensures) c.in-Number.is

pub value_of-returns-in-Name : goal.value_of-returns-in-Name
value_of-returns-in-Name t c = ok_map _ c.number_named.result (λ n h. name (sym c.in-Some.ensures) c.in-Name.is (subst (λ z. IsNumber (source_of c.args.context.now) (parameters_of c.args.scope) (given_in c.args.scope) z n) c.as_str.ensures.value h)) c.number_named.ensures

pub value_of-returns-in-Some-applied : goal.value_of-returns-in-Some-applied
value_of-returns-in-Some-applied t c = binary (sym c.in-Some.ensures) c.in-Binary.is c.in_ok-first-in-Binary.ensures c.in_ok-second-in-Binary.ensures c.in-Some-applied.ensures

pub number_named-returns-in-Number : goal.number_named-returns-in-Number
number_named-returns-in-Number t c = parameter (sym c.in-Some.ensures ∙ ap (λ g. Some (stands g)) c.in-Number.is)

pub number_named-returns : goal.number_named-returns
number_named-returns t c = ok_map _ c.value_of.result (λ n h. constant (sym c.in_default.ensures) (subst (λ o. IsFound (source_of c.args.context.now) c.args.name.now o) c.in-Some-2.is c.in_ok-item.ensures) c.in-Constant.is (evaluates_outside _ _ _ _ n c.outside.ensures.parameters c.outside.ensures.given h)) c.value_of.ensures
