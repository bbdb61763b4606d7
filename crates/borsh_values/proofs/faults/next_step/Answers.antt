use Rattle.std.proofs.Common.{rules, ◌≡◌, ◌≤◌, ◌<◌, get_or, ◌-◌, ℕ, List, Some, length, drop, ap, sym, subst, refl, ◌∙◌, Bor}
use Rattle.std.specs.Global.{Global}
use Rattle.std.specs.Prelude.{ℤ, String, Vec, Option, option_map, slice_get, string_bytes}
use Rattle.std.proofs.lemmas.Bool.{le-leb}
use Rattle.std.proofs.lemmas.List.{length-map}
use Rattle.std.proofs.lemmas.Option.{slice_get_read}
use Rattle.borsh_walks.specs.Container.{references}
use Rattle.borsh_plan.specs.declared.named.Named.{Named}
use Rattle.borsh_walks.specs.declared.definition.Definition.{Definition}
use Rattle.borsh_walks.specs.declared.definition.Definition.TheVariants.{Enum, Struct}
use Rattle.borsh_walks.specs.declared.definition.Fields.TheVariants.{NamedFields}
use Rattle.borsh_walks.specs.Definitions.{shape_of}
use Rattle.borsh_plan.specs.declared.plan.Plan.{Plan}
use Rattle.borsh_plan.specs.Names.{AreParts, found_definition, name_of, parts_in, shape_at}
use Rattle.borsh_plan.specs.Plan.{names_of}
use Rattle.borsh_values.specs.declared.faults.PathStep.TheVariants.{Field, Variant}
use Rattle.borsh_values.specs.declared.{faults.PathStep.PathStep, frames.Frame.Frame}
use Rattle.borsh_values.specs.Cursor.{remaining}
use Rattle.borsh_values.specs.Nodes.{IsStep, IsVariantOf}
use Rattle.borsh_values.specs.Preorder.{level_of}
use Rattle.borsh_values.proofs.faults.next_step.Goals as goal

-- the step from the value of a frame, by its definition
from_frame : (l : Plan) (bytes own : List ℕ) (f : Frame) (d : Definition) (n : ℕ) (s : Option PathStep) → f.start ≤ length bytes → Some d ≡ found_definition (slice_get (names_of l) f.at) → own ≡ drop (length bytes - f.start) bytes → n ≡ length (remaining (names_of l) f.rest) → IsStep (Some d) own n s → IsStep (level_of l bytes f).0 (level_of l bytes f).1 (length (level_of l bytes f).2) s
from_frame l bytes own f d n s low e o m h =
    let p : IsStep (found_definition (slice_get (names_of l) f.at)) (drop (length bytes - f.start) bytes) (length (remaining (names_of l) f.rest)) s = subst (λ n. IsStep (found_definition (slice_get (names_of l) f.at)) (drop (length bytes - f.start) bytes) n s) m (subst (λ b. IsStep (found_definition (slice_get (names_of l) f.at)) b n s) o (subst (λ d. IsStep d own n s) e h)) in
    rw (le-leb f.start (length bytes) low) p

variant_step : (d : Definition) (w : ℕ) (vs : Vec (ℤ × String Global × String Global) Global) (own : List ℕ) (n i : ℕ) (v : ℤ × String Global × String Global) (x : Bor (List ℕ)) → d ≡ Enum w vs → IsVariantOf (shape_of d) own (Some i) → slice_get vs.items i ≡ Some v → x.now ≡ string_bytes v.1 → IsStep (Some d) own n (Some (Variant x))
variant_step d w vs own n i v x e f g h = subst (λ d. IsStep (Some d) own n (Some (Variant x))) (sym e) (Some i, Some x, subst (λ d. IsVariantOf (shape_of d) own (Some i)) e f, refl, ap (λ t. Some t) h ∙ sym (ap (λ o. option_map (λ (v : ℤ × String Global × String Global). string_bytes v.1) o) g))

field_step : (d : Definition) (fs : Vec (String Global × String Global) Global) (own : List ℕ) (n : ℕ) (f : String Global × String Global) (x : Bor (List ℕ)) → d ≡ Struct (NamedFields fs) → slice_get fs.items (length fs.items - n) ≡ Some f → x.now ≡ string_bytes f.0 → IsStep (Some d) own n (Some (Field x))
field_step d fs own n f x e g h = subst (λ d. IsStep (Some d) own n (Some (Field x))) (sym e) (Some x, refl, ap (λ t. Some t) h ∙ sym (ap (λ o. option_map (λ (f : String Global × String Global). string_bytes f.0) o) g))

look_up : {X : Type 0} (items xs : List X) (i : ℕ) (x : X) → xs ≡ items → i < length xs → x ≡ get_or xs i x → slice_get items i ≡ Some x
look_up items xs i x e h r = subst (λ xs. slice_get xs i ≡ Some x) e (slice_get_read xs (length xs) i x refl h r)

part_count : (ns : List Named) (is : List ℕ) (at : ℕ) (d : Definition) (fs : Vec (String Global × String Global) Global) → AreParts ns is (parts_in (shape_at ns at)) → Some (shape_of d) ≡ shape_at ns at → d ≡ Struct (NamedFields fs) → length is ≡ length fs.items
part_count ns is at d fs p s e =
    sym (length-map is (λ i. name_of ns i)) ∙ ap (λ l. length l) p ∙ length-map (parts_in (shape_at ns at)) (λ x. Some x)
    ∙ ap (λ s. length (parts_in s)) (sym s) ∙ ap (λ d. length (references (shape_of d))) e ∙ length-map fs.items (λ f. string_bytes f.1)

pub returns-in_ok-name-in-Enum : goal.returns-in_ok-name-in-Enum
returns-in_ok-name-in-Enum c =
    let d = c.in_ok-definition.definition.now in
    let own = c.after-own.result.now in
    let low : c.args.frame.start ≤ length c.args.bytes.now = search rules in
    let found : Some d ≡ found_definition (slice_get (names_of c.args.plan.now) c.args.frame.at) = search rules in
    let rest : own ≡ drop (length c.args.bytes.now - c.args.frame.start) c.args.bytes.now = search rules in
    let l = c.in_ok-name-in-Enum.ensures.lookup in
    let look = look_up c.in-Enum.variants.items _ c.in_ok-variant_in-in-Enum.field-0 c.in_ok-name-in-Enum.field-0.now c.deref.ensures.value l.3.0 l.1 in
    from_frame c.args.plan.now c.args.bytes.now own c.args.frame d c.count_left-left.result _ low found rest c.count_left-left.ensures
    (variant_step d c.in-Enum.tag_width c.in-Enum.variants own c.count_left-left.result c.in_ok-variant_in-in-Enum.field-0 c.in_ok-name-in-Enum.field-0.now c.as_str.result c.in-Enum.is c.in_ok-variant_in-in-Enum.ensures look c.as_str.ensures.value)

pub returns-in_ok-name-in-Struct-NamedFields : goal.returns-in_ok-name-in-Struct-NamedFields
returns-in_ok-name-in-Struct-NamedFields c =
    let d = c.in_ok-definition.definition.now in
    let own = c.after-own.result.now in
    let fs = c.in-Struct-NamedFields.fields in
    let n = c.count_left-left.result in
    let low : c.args.frame.start ≤ length c.args.bytes.now = search rules in
    let found : Some d ≡ found_definition (slice_get (names_of c.args.plan.now) c.args.frame.at) = search rules in
    let rest : own ≡ drop (length c.args.bytes.now - c.args.frame.start) c.args.bytes.now = search rules in
    let is : d ≡ Struct (NamedFields fs) = search rules in
    let shape : Some (shape_of d) ≡ shape_at (names_of c.args.plan.now) c.args.frame.at = search rules in
    let index : c.saturating_sub-index.result ≡ length fs.items - n = c.saturating_sub-index.ensures ∙ ap (λ k. k - n) (part_count (names_of c.args.plan.now) c.parts.result.now c.args.frame.at d fs c.parts.ensures shape is) in
    let l = c.in_ok-name-in-Struct-NamedFields.ensures.lookup in
    let look = look_up fs.items _ c.saturating_sub-index.result c.in_ok-name-in-Struct-NamedFields.field-0.now c.deref-in-Struct-NamedFields.ensures.value l.3.0 l.1 in
    from_frame c.args.plan.now c.args.bytes.now own c.args.frame d n _ low found rest c.count_left-left.ensures
    (field_step d fs own n c.in_ok-name-in-Struct-NamedFields.field-0.now c.as_str-in-Struct-NamedFields.result is (subst (λ i. slice_get fs.items i ≡ Some c.in_ok-name-in-Struct-NamedFields.field-0.now) index look) c.as_str-in-Struct-NamedFields.ensures.value)
