use Rattle.std.proofs.Common.{inl, refl, sym}
use Rattle.borsh_json.specs.{Found.{forms_of, names_of}, Ordered.{single}}
use Rattle.borsh_json.proofs.{FoundLaws.{not_true}, OrderedLaws.{finds_order}, UnorderedLaws.{no_definition}}
use Rattle.borsh_json.proofs.definitions.Definitions.order_by_parts.Goals as goal

pub returns-then-is_zero_size-clause-order : goal.returns-then-is_zero_size-clause-order
returns-then-is_zero_size-clause-order c x h = (single, inl ((c.is_zero_size.ensures x h).0 c.if-is_zero_size.true, refl), refl)

pub returns-clause-order : goal.returns-clause-order
returns-clause-order c x h =
    let d = c.args.self.now in
    finds_order (forms_of d) (names_of d) x c.ordered_as.result (not_true c.is_zero_size.result (c.is_zero_size.ensures x h) c.if-is_zero_size.false) (c.ordered_as.ensures.order x (h, sym (c.in_ok-get.ensures x h)))

pub returns-then-is_zero_size-clause-none : goal.returns-then-is_zero_size-clause-none
returns-then-is_zero_size-clause-none c x h e = cc

pub returns-clause-none : goal.returns-clause-none
returns-clause-none c x h e =
    (not_true c.is_zero_size.result (c.is_zero_size.ensures x h) c.if-is_zero_size.false, c.ordered_as.ensures.none x (h, sym (c.in_ok-get.ensures x h)) e)

pub returns-in_err-get-clause-none : goal.returns-in_err-get-clause-none
returns-in_err-get-clause-none c x h e =
    (not_true c.is_zero_size.result (c.is_zero_size.ensures x h) c.if-is_zero_size.false, no_definition (forms_of c.args.self.now) x (sym (c.in_err-get.ensures x h)))
