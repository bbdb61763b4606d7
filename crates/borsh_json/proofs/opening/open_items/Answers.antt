use Rattle.borsh_json.specs.{Forms.{form_of}, Places.{lengths_of}}
use Rattle.borsh_json.proofs.{OpeningLaws.{refuses_expected}, PartsLaws.{list_opened, list_range, no_list}}
use Rattle.borsh_json.proofs.opening.open_items.Goals as goal

pub returns-in-Ok : goal.returns-in-Ok
returns-in-Ok c F ns x j kind e i h s b =
    let a = c.in-Of.ensures j b in
    let k = c.in-Ok.ensures in
    list_opened F ns x j kind (lengths_of (form_of c.args.definition.now)) e c.args.elements.at i h s.0 (λ own ps. (s.1 own ps).0) (λ own ps. (s.1 own ps).1) c.new-place.result c.in-Of.items a.0 c.in-Of.count c.args.out.now.items c.put_length.new.out.items c.new-place.ensures.parts c.new-place.ensures.begun a.1 a.2 a.3 k.0 k.1 k.2

pub returns-in-Err : goal.returns-in-Err
returns-in-Err c F ns x j kind e i h s b =
    let a = c.in-Of.ensures j b in
    list_range F ns x j kind (lengths_of (form_of c.args.definition.now)) e c.args.elements.at i h s.0 (λ own ps. (s.1 own ps).0) (λ own ps. (s.1 own ps).1) c.in-Err.error a.0 c.in-Of.count a.1 a.3 c.in-Err.ensures

pub returns-in-No : goal.returns-in-No
returns-in-No c F ns x j kind e i h s b =
    refuses_expected F ns x j c.expected.result c.expected.ensures (no_list F ns x j kind (lengths_of (form_of c.args.definition.now)) e c.args.elements.at i h s.0 (λ own ps. (s.1 own ps).0) (λ own ps. (s.1 own ps).1) (c.in-No.ensures j b))
