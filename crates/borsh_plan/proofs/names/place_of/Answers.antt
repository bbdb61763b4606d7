use Rattle.std.proofs.Common.{◌≡◌, ◌∙◌, ◌∷◌, ◌++◌, [], length, sym, ap, subst, Some}
use Rattle.borsh_walks.specs.Tables.{mark_of}
use Rattle.borsh_walks.proofs.Tables.{updated_by, Updated}
use Rattle.borsh_plan.specs.Names.{IsAdded, IsIndex, Grows, name_of}
use Rattle.borsh_plan.specs.declared.named.Named.{Named}
use Rattle.borsh_plan.proofs.NameLaws.{index_more, grows_one, get_last, named_is}
use Rattle.borsh_plan.proofs.names.place_of.Goals as goal

pub returns-in-Some-clause-place : goal.returns-in-Some-clause-place
returns-in-Some-clause-place c = c.requires.sound c.args.name.now c.in-Some.place.now (sym c.in-Some.ensures.value)

pub returns-clause-index : goal.returns-clause-index
returns-clause-index c =
    let n : Named = record { name = c.args.name; definition = c.definition_of-definition.result; from = c.args.from; index = c.args.index } in
    let u = updated_by c.args.name.now c.args.places.now c.insert.new.self c.len-place.result c.in_ok-insert.ensures.updates in
    subst (λ l. IsIndex c.args.map.now l (mark_of c.insert.new.self)) (sym c.in_ok-push.ensures.items) (index_more c.args.map.now n c.requires (sym c.in_default.ensures.value) c.definition_of-definition.ensures (subst (λ k. Updated (mark_of c.args.places.now) (mark_of c.insert.new.self) c.args.name.now k) (c.len-place.ensures ∙ c.args.names.now.ok.0) u))

pub returns-clause-place : goal.returns-clause-place
returns-clause-place c =
    let n : Named = record { name = c.args.name; definition = c.definition_of-definition.result; from = c.args.from; index = c.args.index } in
    let ns = c.args.names.now.items in
    let at = c.len-place.ensures ∙ c.args.names.now.ok.0 in
    subst (λ l. name_of l c.len-place.result ≡ Some c.args.name.now) (sym c.in_ok-push.ensures.items) (ap (λ i. name_of (ns ++ n ∷ []) i) at ∙ named_is (ns ++ n ∷ []) (length ns) n (get_last n ns))

pub returns-clause-grown : goal.returns-clause-grown
returns-clause-grown c =
    let n : Named = record { name = c.args.name; definition = c.definition_of-definition.result; from = c.args.from; index = c.args.index } in
    subst (λ l. Grows (IsAdded c.args.name.now c.args.from c.args.index) 1 c.args.names.now.items l) (sym c.in_ok-push.ensures.items) (grows_one c.args.names.now.items n)
