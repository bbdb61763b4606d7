use Rattle.std.proofs.Common.{◌∙◌, sym, subst}
use Rattle.borsh_plan.specs.Plan.{definitions_of, names_of}
use Rattle.borsh_plan.proofs.Places.{name_is}
use Rattle.borsh_values.specs.Free.{FreeSize}
use Rattle.borsh_compare.specs.Together.{without_members, of_one_size}
use Rattle.std.specs.Prelude.{Bool}
use Rattle.borsh_walks.specs.Definitions.{shape_of}
use Rattle.borsh_compare.specs.Corresponding.{CorrespondAt, Listing, StaysInside}
use Rattle.borsh_compare.proofs.Parts.{defined_of, ok_any}
use Rattle.borsh_compare.proofs.walk.names_go.Goals as goal

pub returns-then-has_none-clause-go : goal.returns-then-has_none-clause-go
returns-then-has_none-clause-go c = λ e x y p q. without_members (defined_of c.args.both.old.now x c.args.owners.old p ∙ sym c.in-Some.ensures.shape) (c.has_none.ensures c.if-has_none.true)

pub returns-then-have_one_size-clause-go : goal.returns-then-have_one_size-clause-go
returns-then-have_one_size-clause-go c = λ e x y p q.
    let old = c.args.both.old.now in
    let new = c.args.both.new.now in
    let h = c.have_one_size.ensures c.if-have_one_size.true in
    of_one_size h.0 (subst (λ z. FreeSize (definitions_of old) z h.0) (name_is (names_of old) c.args.owners.old x p).1 h.1) (subst (λ z. FreeSize (definitions_of new) z h.0) (name_is (names_of new) c.args.owners.new y q).1 h.2)

pub has_other_parts-requires-clause-old : goal.has_other_parts-requires-clause-old
has_other_parts-requires-clause-old c = sym c.in-Some.ensures.shape

pub has_other_parts-requires-clause-new : goal.has_other_parts-requires-clause-new
has_other_parts-requires-clause-new c = sym c.in-Some-definition.ensures.shape

pub returns-then-has_other_parts-clause-stays : goal.returns-then-has_other_parts-clause-stays
returns-then-has_other_parts-clause-stays c =
    let old = c.args.both.old.now in
    let new = c.args.both.new.now in
    let i = c.args.owners.old in
    let j = c.args.owners.new in
    let before = c.args.pairs.now.list.items in
    let after = c.go_through.new.pairs.list.items in
    ok_any (λ (b : Bool). (S : Listing) → CorrespondAt old new S i j → StaysInside old new S before after b) c.go_through.result
    (λ b S g. absurd (c.has_other_parts.ensures c.if-has_other_parts.true S (g (shape_of c.in-Some.old.now) (sym c.in-Some.ensures.shape))))
