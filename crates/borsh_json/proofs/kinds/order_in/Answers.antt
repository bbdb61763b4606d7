use Rattle.std.proofs.Common.{subst}
use Rattle.borsh_json.specs.{declared.formats.Collection.{Collection}, Found.{IsCollection, forms_of, names_of}}
use Rattle.borsh_json.proofs.KindOrders.{key_found, list_none, set_found}
use Rattle.borsh_json.proofs.kinds.order_in.Goals as goal

pub returns-in-List : goal.returns-in-List
returns-in-List c x e w lo hi l i f =
    let d = c.args.definitions.now in
    (tt, λ r. list_none (forms_of d) (names_of d) x (subst (λ (k : Collection). IsCollection (forms_of d) (names_of d) x k) c.in-List.is l))

pub returns-in-Set : goal.returns-in-Set
returns-in-Set c x e w lo hi l i f =
    let d = c.args.definitions.now in
    let s = subst (λ (k : Collection). IsCollection (forms_of d) (names_of d) x k) c.in-Set.is l in
    (set_found (forms_of d) (names_of d) x e w lo hi c.order_of.result s f (c.order_of.ensures e i), λ r. cc)

pub returns-in-Map : goal.returns-in-Map
returns-in-Map c x e w lo hi l i f =
    let d = c.args.definitions.now in
    let s = subst (λ (k : Collection). IsCollection (forms_of d) (names_of d) x k) c.in-Map.is l in
    ((s.0, key_found (forms_of d) (names_of d) x s.0 s.1 c.order_of-in-Map.result s.4 (c.order_of-in-Map.ensures s.0 s.2)), λ r. cc)
