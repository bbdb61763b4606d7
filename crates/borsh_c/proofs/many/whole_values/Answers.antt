use Rattle.std.proofs.Common.{ℕ, Option, arith, length, refl, subst, sym, take, string_bytes}
use Rattle.borsh_walks.specs.Definitions.{definitions_in}
use Rattle.borsh_c.specs.Answers.{IsUnclear, Saying}
use Rattle.borsh_c.specs.Many.{AreLengths, BeginWithLengths, IsCutShort, IsNoRecord, IsStop, behind}
use Rattle.borsh_c.specs.Many.NoMore.{done}
use Rattle.borsh_c.proofs.Records.{by_plan, no_more, stopped}
use Rattle.borsh_c.proofs.Told.{about_told, fault_told, no_told, unclear_told}
use Rattle.borsh_c.proofs.many.whole_values.Goals as goal

pub returns-then-measured-gt0-clause-ok : goal.returns-then-measured-gt0-clause-ok
returns-then-measured-gt0-clause-ok c =
    let C = definitions_in c.in_ok-root.definitions in
    let root = c.as_str.result.now in
    let m = c.in_ok-measured.measured in
    let lengths = c.measure.new.lengths in
    let left = behind (take m.count lengths) c.args.bytes.now in
    let P : Saying = λ m root. AreLengths (definitions_in m) root c.args.bytes.now lengths c.in_ok-measured.measured.count in
    let values = by_plan (λ d r. BeginWithLengths (definitions_in d) r (take m.count lengths) c.args.bytes.now) c.in_ok-plan.plan c.in_ok-plan.ensures c.in_ok-measured.ensures.values in
    let stop = by_plan (λ d r. IsStop (definitions_in d) r (length lengths) m.count left m.stop) c.in_ok-plan.plan c.in_ok-plan.ensures c.in_ok-measured.ensures.stop in
    about_told (c.in_ok-root.root, c.in_ok-root.definitions) c.in_ok-root.ensures.ok root c.as_str.ensures.value P
    (record { room = c.in_ok-measured.ensures.room; values = values; last = no_more C root (length lengths) m.count left m.stop c.if-measured-gt0.true stop })

pub returns-in-End-clause-ok : goal.returns-in-End-clause-ok
returns-in-End-clause-ok c =
    let lengths = c.measure.new.lengths in
    let stop = stopped c.in_ok-plan.plan c.in_ok-plan.ensures lengths c.args.bytes.now c.in_ok-measured.measured.count c.if-measured-gt0.false c.in-End.is c.in_ok-measured.ensures.stop in
    let P : Saying = λ m root. AreLengths (definitions_in m) root c.args.bytes.now lengths 0 in
    about_told (c.in_ok-root.root, c.in_ok-root.definitions) c.in_ok-root.ensures.ok c.as_str.result.now c.as_str.ensures.value P (record { room = omega arith; values = tt; last = done stop })

pub returns-in-EmptyValue-clause-err : goal.returns-in-EmptyValue-clause-err
returns-in-EmptyValue-clause-err c =
    let stop = stopped c.in_ok-plan.plan c.in_ok-plan.ensures c.measure.new.lengths c.args.bytes.now c.in_ok-measured.measured.count c.if-measured-gt0.false c.in-EmptyValue.is c.in_ok-measured.ensures.stop in
    no_told (c.in_ok-root.root, c.in_ok-root.definitions) c.in_ok-root.ensures.ok c.as_str.result.now c.as_str.ensures.value (IsNoRecord c.args.bytes.now) IsUnclear (stop, c.in_ok-from_str-in-EmptyValue.ensures.ok) c.no.result c.no.ensures

pub returns-in-Short-clause-ok : goal.returns-in-Short-clause-ok
returns-in-Short-clause-ok c =
    let stop = stopped c.in_ok-plan.plan c.in_ok-plan.ensures c.measure.new.lengths c.args.bytes.now c.in_ok-measured.measured.count c.if-measured-gt0.false c.in-Short.is c.in_ok-measured.ensures.stop in
    let said = c.in_ok-said-in-Short.said in
    let told = rw c.in-Short.is at c.in_ok-said-in-Short.ensures in
    let m = c.in_ok-root.definitions in
    about_told (c.in_ok-root.root, m) c.in_ok-root.ensures.ok c.as_str.result.now c.as_str.ensures.value (IsCutShort c.args.bytes.now said.offset (string_bytes said.text))
    (subst (λ (o : Option ℕ). IsCutShort c.args.bytes.now o (string_bytes said.text) m c.as_str.result.now) (sym told.0) (told.1, c.in-Short.fault, refl, stop))

pub returns-in-NoMember-clause-err : goal.returns-in-NoMember-clause-err
returns-in-NoMember-clause-err c =
    let stop = stopped c.in_ok-plan.plan c.in_ok-plan.ensures c.measure.new.lengths c.args.bytes.now c.in_ok-measured.measured.count c.if-measured-gt0.false c.in-NoMember.is c.in_ok-measured.ensures.stop in
    let told = rw c.in-NoMember.is at c.in_ok-said_of-in-NoMember.ensures in
    fault_told (c.in_ok-root.root, c.in_ok-root.definitions) c.in_ok-root.ensures.ok c.as_str.result.now c.as_str.ensures.value (IsNoRecord c.args.bytes.now) IsUnclear
    c.in_ok-said_of-in-NoMember.field-0 told.0 (told.1, c.in-NoMember.fault, refl, stop)

pub returns-clause-err : goal.returns-clause-err
returns-clause-err c =
    let stop = stopped c.in_ok-plan.plan c.in_ok-plan.ensures c.measure.new.lengths c.args.bytes.now c.in_ok-measured.measured.count c.if-measured-gt0.false c.in-Ambiguous.is c.in_ok-measured.ensures.stop in
    unclear_told (c.in_ok-root.root, c.in_ok-root.definitions) c.in_ok-root.ensures.ok c.as_str.result.now c.as_str.ensures.value stop c.in_ok-unclear-in-Ambiguous.ensures
