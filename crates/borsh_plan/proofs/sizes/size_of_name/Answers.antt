use Rattle.std.proofs.Common.{◌∙◌, ap, sym}
use Rattle.borsh_walks.specs.Definitions.{shape_of}
use Rattle.borsh_plan.specs.Names.{shape_at}
use Rattle.borsh_plan.proofs.SizesLaws.{by_nothing, by_primitive, by_parts, by_list, by_array, by_enum}
use Rattle.borsh_plan.proofs.sizes.size_of_name.Goals as goal

pub returns-in_default : goal.returns-in_default
returns-in_default c = λ P sizes. by_nothing P (shape_at c.args.names.now.names.items c.args.at) (sym c.in_default.ensures.shape)

pub returns-in-Primitive : goal.returns-in-Primitive
returns-in-Primitive c = λ P sizes. c.from.ensures ∙ by_primitive P (shape_at c.args.names.now.names.items c.args.at) (shape_of c.in-Some.definition.now) (sym c.in-Some.ensures.shape) _ (ap (λ d. shape_of d) c.in-Primitive.is)

pub returns-in-Tuple : goal.returns-in-Tuple
returns-in-Tuple c = λ P sizes. c.size_of_parts.ensures P sizes ∙ by_parts P (shape_at c.args.names.now.names.items c.args.at) (shape_of c.in-Some.definition.now) (sym c.in-Some.ensures.shape) _ (ap (λ d. shape_of d) c.in-Tuple.is)

pub returns-in-Struct : goal.returns-in-Struct
returns-in-Struct c = λ P sizes. c.size_of_parts-in-Struct.ensures P sizes ∙ by_parts P (shape_at c.args.names.now.names.items c.args.at) (shape_of c.in-Some.definition.now) (sym c.in-Some.ensures.shape) _ (ap (λ d. shape_of d) c.in-Struct.is)

pub returns-then-length_width-ne0 : goal.returns-then-length_width-ne0
returns-then-length_width-ne0 c = λ P sizes. by_list P (shape_at c.args.names.now.names.items c.args.at) (shape_of c.in-Some.definition.now) (sym c.in-Some.ensures.shape) _ _ _ _ (ap (λ d. shape_of d) c.in-Sequence.is) c.if-length_width-ne0.true

pub returns-else-length_width-ne0 : goal.returns-else-length_width-ne0
returns-else-length_width-ne0 c = λ P sizes. by_array P (shape_at c.args.names.now.names.items c.args.at) (shape_of c.in-Some.definition.now) (sym c.in-Some.ensures.shape) _ _ _ c.size_of_array.result _ (ap (λ d. shape_of d) c.in-Sequence.is) c.if-length_width-ne0.false (λ e h. c.size_of_array.ensures P e sizes h)

pub returns-in-Enum : goal.returns-in-Enum
returns-in-Enum c = λ P sizes. by_enum P (shape_at c.args.names.now.names.items c.args.at) (shape_of c.in-Some.definition.now) (sym c.in-Some.ensures.shape) _ _ (ap (λ d. shape_of d) c.in-Enum.is)
