use Rattle.std.proofs.Common.{refl}
use Rattle.borsh_json.specs.{Forms.{form_of}, Places.{lengths_of}}
use Rattle.borsh_json.proofs.MapLaws.{map_opened, map_range}
use Rattle.borsh_json.proofs.opening.open_map.Goals as goal

pub returns-in-Ok-put_length : goal.returns-in-Ok-put_length
returns-in-Ok-put_length c F ns x j h b =
    let m = c.args.entries in
    let y = h.1 in
    let l = lengths_of (form_of c.args.definition.now) in
    let t = c.in-Ok.ensures F ns x y.0 y.1 l (form_of m.key_definition.now) y.2 j y.5 y.6 b in
    let k = c.in-Ok-put_length.ensures in
    map_opened F ns x j l y.2 y.0 y.1 y.5 m.key_kind c.in-Ok.source c.in-Ok.count t m c.new.result c.args.out.now.items c.put_length.new.out.items y.3 y.4 y.6 refl c.new.ensures.parts c.new.ensures.begun k.0 k.1 k.2

pub returns-in-Ok : goal.returns-in-Ok
returns-in-Ok c F ns x j h b =
    let m = c.args.entries in
    let y = h.1 in
    let l = lengths_of (form_of c.args.definition.now) in
    let t = c.in-Ok.ensures F ns x y.0 y.1 l (form_of m.key_definition.now) y.2 j y.5 y.6 b in
    map_range F ns x j l y.2 y.0 y.1 y.5 m.key_kind c.in-Ok.source c.in-Ok.count t c.in-Err-put_length.error c.in-Err-put_length.ensures

pub returns : goal.returns
returns c F ns x j h b =
    let y = h.1 in
    c.in-Err.ensures F ns x y.0 y.1 (lengths_of (form_of c.args.definition.now)) (form_of c.args.entries.key_definition.now) y.2 j y.5 y.6 b
