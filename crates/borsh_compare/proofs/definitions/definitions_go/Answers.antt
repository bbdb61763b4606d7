use Rattle.std.proofs.Common.{◌≡◌, ◌∙◌, length, sym, ap, subst, Some, true, arith}
use Rattle.std.specs.Prelude.{Bool}
use Rattle.borsh_plan.specs.Names.{parts_in, shape_at}
use Rattle.borsh_plan.specs.Plan.{names_of}
use Rattle.borsh_walks.specs.Definitions.{shape_of}
use Rattle.borsh_walks.specs.Container.{choice}
use Rattle.borsh_compare.specs.Together.{NamesGo, ShapesGo, VariantsGo, unnamed}
use Rattle.borsh_compare.specs.Corresponding.{DefinitionsIn, Listing, Lists, PartIn, StaysInside, VariantsCorrespond}
use Rattle.borsh_compare.specs.Walks.{Paired, DefinitionsGoAt}
use Rattle.borsh_compare.proofs.Parts.{ok_map}
use Rattle.borsh_compare.proofs.Staying.{first_part, names_in, shapes_in}
use Rattle.borsh_compare.proofs.definitions.definitions_go.Goals as goal

pub variants_go-requires-clause-old : goal.variants_go-requires-clause-old
variants_go-requires-clause-old c = sym (ap parts_in c.in-Some.ensures.shape) ∙ ap (λ d. parts_in (Some (shape_of d))) c.in-Enum-Enum.is-0

pub variants_go-requires-clause-new : goal.variants_go-requires-clause-new
variants_go-requires-clause-new c = sym (ap parts_in c.in-Some-definition.ensures.shape) ∙ ap (λ d. parts_in (Some (shape_of d))) c.in-Enum-Enum.is-1

pub returns-else-old_width-new_width-2-clause-go : goal.returns-else-old_width-new_width-2-clause-go
returns-else-old_width-new_width-2-clause-go c =
    let old = c.args.both.old.now in
    let new = c.args.both.new.now in
    let pairs = c.variants_go.new.pairs.list.items in
    let vs = unnamed c.in-Enum-Enum.old_variants.items in
    let us = unnamed c.in-Enum-Enum.new_variants.items in
    ok_map (λ (b : Bool). b ≡ true → VariantsGo (Paired old new pairs) (length vs) vs us) (λ (b : Bool). b ≡ true → DefinitionsGoAt old new pairs c.args.owners.old c.args.owners.new) c.variants_go.result
    (λ b g t. record {
      old_shape = shape_of c.in-Some.old.now;
      new_shape = shape_of c.in-Some-definition.new.now;
      old_there = sym c.in-Some.ensures.shape;
      new_there = sym c.in-Some-definition.ensures.shape;
      go = subst (λ d. ShapesGo (Paired old new pairs) d (shape_of c.in-Some-definition.new.now)) (sym (ap shape_of c.in-Enum-Enum.is-0)) (subst (λ d. ShapesGo (Paired old new pairs) (choice c.in-Enum-Enum.old_width vs) d) (sym (ap shape_of c.in-Enum-Enum.is-1)) (c.if-old_width-new_width-2.false, g t));
    })
    c.variants_go.ensures.go

pub returns-else-old_range-eq0-clause-stays : goal.returns-else-old_range-eq0-clause-stays
returns-else-old_range-eq0-clause-stays c =
    let old = c.args.both.old.now in
    let new = c.args.both.new.now in
    let i = c.args.owners.old in
    let j = c.args.owners.new in
    let before = c.args.pairs.now.list.items in
    let after = c.part_goes.new.pairs.list.items in
    let o = sym c.in-Some.ensures.shape ∙ ap (λ d. Some (shape_of d)) c.in-Sequence-Sequence.is-0 in
    let n = sym c.in-Some-definition.ensures.shape ∙ ap (λ d. Some (shape_of d)) c.in-Sequence-Sequence.is-1 in
    ok_map (λ (b : Bool). (S : Listing) → PartIn old new S i j 0 0 → StaysInside old new S before after b) (λ (b : Bool). (S : Listing) → DefinitionsIn old new S i j → StaysInside old new S before after b) c.part_goes.result (λ b g S d. g S (first_part old new S i j o n (let h = c.if-old_range-eq0.false in omega (arith, h)) d)) c.part_goes.ensures.stays

pub returns-else-old_width-new_width-2-clause-stays : goal.returns-else-old_width-new_width-2-clause-stays
returns-else-old_width-new_width-2-clause-stays c =
    let old = c.args.both.old.now in
    let new = c.args.both.new.now in
    let i = c.args.owners.old in
    let j = c.args.owners.new in
    let before = c.args.pairs.now.list.items in
    let after = c.variants_go.new.pairs.list.items in
    let vs = unnamed c.in-Enum-Enum.old_variants.items in
    let us = unnamed c.in-Enum-Enum.new_variants.items in
    let o = sym c.in-Some.ensures.shape ∙ ap (λ d. Some (shape_of d)) c.in-Enum-Enum.is-0 in
    let n = sym c.in-Some-definition.ensures.shape ∙ ap (λ d. Some (shape_of d)) c.in-Enum-Enum.is-1 in
    ok_map (λ (b : Bool). (S : Listing) → VariantsCorrespond (Lists S) vs us → StaysInside old new S before after b) (λ (b : Bool). (S : Listing) → DefinitionsIn old new S i j → StaysInside old new S before after b) c.variants_go.result (λ b g S d. g S (shapes_in old new S i j (choice c.in-Enum-Enum.old_width vs) (choice c.in-Enum-Enum.new_width us) d o n).1) c.variants_go.ensures.stays

pub returns-else-not-is_product-2-clause-stays : goal.returns-else-not-is_product-2-clause-stays
returns-else-not-is_product-2-clause-stays c =
    let old = c.args.both.old.now in
    let new = c.args.both.new.now in
    let i = c.args.owners.old in
    let j = c.args.owners.new in
    let before = c.args.pairs.now.list.items in
    let after = c.parts_go.new.pairs.list.items in
    let xs = parts_in (shape_at (names_of old) i) in
    let ys = parts_in (shape_at (names_of new) j) in
    ok_map (λ (b : Bool). (S : Listing) → NamesGo (Lists S) xs ys → StaysInside old new S before after b) (λ (b : Bool). (S : Listing) → DefinitionsIn old new S i j → StaysInside old new S before after b) c.parts_go.result (λ b g S d. g S (names_in old new S i j (shape_of c.in-Some.old.now) (shape_of c.in-Some-definition.new.now) (sym c.in-Some.ensures.shape) (sym c.in-Some-definition.ensures.shape) (c.is_product.ensures.is c.if-not-is_product.false) (c.is_product-else-not-is_product.ensures.is c.if-not-is_product-2.false) d)) c.parts_go.ensures.stays
