use Rattle.std.proofs.Common.{sym}
use Rattle.borsh_json.proofs.definitions.Definitions.find_kind.Goals as goal

pub returns-in_ok-kind-in-Some-clause-kind : goal.returns-in_ok-kind-in-Some-clause-kind
returns-in_ok-kind-in-Some-clause-kind c = λ x i full.
    let t = sym (c.in-Some.ensures x i) in
    (t, c.in_ok-kind-in-Some.ensures.kind x i t full)

pub returns-in-None-clause-kind : goal.returns-in-None-clause-kind
returns-in-None-clause-kind c = λ x i full. sym (c.in-None.ensures x i)

pub returns-in_ok-kind-in-Some-clause-orders : goal.returns-in_ok-kind-in-Some-clause-orders
returns-in_ok-kind-in-Some-clause-orders c = λ x i. c.in_ok-kind-in-Some.ensures.orders x (i, sym (c.in-Some.ensures x i))
