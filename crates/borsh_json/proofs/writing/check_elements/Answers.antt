use Rattle.std.proofs.Common.{◌≡◌, ◌∙◌, ◌++◌, length, sym, subst}
use Rattle.borsh_walks.specs.Container.{Shape}
use Rattle.borsh_values.specs.Nodes.{AreElementsOf}
use Rattle.borsh_json.specs.{declared.kinds.Kind.{Kind as Found}, declared.kinds.Kind.TheVariants.{ByteList, Numbers}, Forms.{form_of}, Frames.{steps_at, steps_through}, Orders.{KindHasOrder}, Places.{IsKindOf}}
use Rattle.borsh_json.proofs.FallLaws.{both_known, bytes_falls, numbers_falls, rises_in}
use Rattle.borsh_walks.proofs.Forms.{shape_is}
use Rattle.borsh_json.proofs.writing.check_elements.Goals as goal

pub returns-in-ByteList-clause-full : goal.returns-in-ByteList-clause-full
returns-in-ByteList-clause-full c =
    let n = c.args.node.now in
    let d = n.definition.now in
    let bytes = c.elements_of.result.now in
    let q = c.args.position.now in
    both_known c.check_ascent.result c.check_ascent.ensures.descends c.check_ascent.ensures.falls (λ e i g F ns x parts after o k h.
    bytes_falls F ns x n.bytes.now after bytes (form_of d) parts c.in-ByteList.elements o (subst (λ (s : Shape). AreElementsOf s n.bytes.now bytes) (sym (shape_is d)) c.elements_of.ensures) q.root.now (steps_through q.outer.items ++ steps_at q.place) (length q.outer.items) e
    (subst (λ (q : Found). IsKindOf F ns x (form_of d) q) c.in-ByteList.is k) (subst (λ (q : Found). KindHasOrder F ns x q) c.in-ByteList.is h) i g)

pub returns-in_ok-check_room-in-Numbers-clause-full :
    goal.returns-in_ok-check_room-in-Numbers-clause-full
returns-in_ok-check_room-in-Numbers-clause-full c =
    let n = c.args.node.now in
    let d = n.definition.now in
    let bytes = c.elements_of-in-Numbers.result.now in
    let q = c.args.position.now in
    both_known c.check_ascent-in-Numbers.result c.check_ascent-in-Numbers.ensures.descends c.check_ascent-in-Numbers.ensures.falls (λ e i g F ns x parts after o k h.
    numbers_falls F ns x n.bytes.now after bytes (form_of d) parts c.in-Numbers.elements o (subst (λ (s : Shape). AreElementsOf s n.bytes.now bytes) (sym (shape_is d)) c.elements_of-in-Numbers.ensures) q.root.now (steps_through q.outer.items ++ steps_at q.place) (length q.outer.items) e
    (subst (λ (q : Found). IsKindOf F ns x (form_of d) q) c.in-Numbers.is k) (subst (λ (q : Found). KindHasOrder F ns x q) c.in-Numbers.is h) i g)

pub returns-in-ByteList-clause-bytes : goal.returns-in-ByteList-clause-bytes
returns-in-ByteList-clause-bytes c =
    let n = c.args.node.now in
    let d = n.definition.now in
    let bytes = c.elements_of.result.now in
    rises_in c.check_ascent.result (form_of d) n.bytes.now bytes c.in-ByteList.elements (λ es. c.args.kind ≡ ByteList es) (λ es e. let q : ByteList c.in-ByteList.elements ≡ ByteList es = sym c.in-ByteList.is ∙ e in cc) (subst (λ (s : Shape). AreElementsOf s n.bytes.now bytes) (sym (shape_is d)) c.elements_of.ensures) c.check_ascent.ensures.rises

pub returns-in_ok-check_room-in-Numbers-clause-numbers :
    goal.returns-in_ok-check_room-in-Numbers-clause-numbers
returns-in_ok-check_room-in-Numbers-clause-numbers c =
    let n = c.args.node.now in
    let d = n.definition.now in
    let bytes = c.elements_of-in-Numbers.result.now in
    rises_in c.check_ascent-in-Numbers.result (form_of d) n.bytes.now bytes c.in-Numbers.elements (λ es. c.args.kind ≡ Numbers es) (λ es e. let q : Numbers c.in-Numbers.elements ≡ Numbers es = sym c.in-Numbers.is ∙ e in cc) (subst (λ (s : Shape). AreElementsOf s n.bytes.now bytes) (sym (shape_is d)) c.elements_of-in-Numbers.ensures) c.check_ascent-in-Numbers.ensures.rises
