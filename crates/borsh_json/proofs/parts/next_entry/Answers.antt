use Rattle.borsh_json.proofs.parts.next_entry.Goals as goal

pub returns-in-Ok : goal.returns-in-Ok
returns-in-Ok c F ns keys k v es at ks he =
    let t = c.in-Some.ensures c.args.entries.key_kind es he in
    let o = c.in-Ok.ensures F ns k keys t.0 ks t.4 in
    (t.0, t.1, t.2, o.0, t.3, at, t.5, t.6, o.2, o.1)

pub returns-in-Err : goal.returns-in-Err
returns-in-Err c F ns keys k v es at ks he =
    let t = c.in-Some.ensures c.args.entries.key_kind es he in
    (t.0, t.1, t.2, t.3, c.in-Err.ensures F ns k keys t.0 ks t.4)

pub returns-in-None : goal.returns-in-None
returns-in-None c F ns keys k v es at ks he = c.in-None.ensures c.args.entries.key_kind es he
