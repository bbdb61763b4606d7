use Rattle.std.proofs.Common.{◌∙◌, Some, refl, ap}
use Rattle.borsh_json.specs.Forms.{sequence}
use Rattle.borsh_json.proofs.FoundLaws.{not_true}
use Rattle.borsh_json.proofs.kinds.kind_of_sequence.Goals as goal

pub returns-then-is_byte-clause-kind : goal.returns-then-is_byte-clause-kind
returns-then-is_byte-clause-kind c = λ w lo hi e q x h full.
    let i = c.part-element.ensures x e (sequence w lo hi e) h.0 (h.1 ∙ ap (λ f. Some f) q) refl in
    c.kind_of_bytes.ensures.kind w lo hi e q i ((c.is_byte.ensures e i).0 c.if-is_byte.true) x h full

pub returns-else-is_byte-clause-kind : goal.returns-else-is_byte-clause-kind
returns-else-is_byte-clause-kind c = λ w lo hi e q x h full.
    let i = c.part-element.ensures x e (sequence w lo hi e) h.0 (h.1 ∙ ap (λ f. Some f) q) refl in
    c.kind_of_list.ensures.kind w lo hi e q i (not_true c.is_byte.result (c.is_byte.ensures e i) c.if-is_byte.false) x h full

pub returns-then-is_byte-clause-orders : goal.returns-then-is_byte-clause-orders
returns-then-is_byte-clause-orders c = λ w lo hi e q x f.
    c.kind_of_bytes.ensures.orders (w, lo, hi, e, q, c.part-element.ensures x e (sequence w lo hi e) f.0 (f.1 ∙ ap (λ f. Some f) q) refl) x f

pub returns-else-is_byte-clause-orders : goal.returns-else-is_byte-clause-orders
returns-else-is_byte-clause-orders c = λ w lo hi e q x f.
    c.kind_of_list.ensures.orders (w, lo, hi, e, q, c.part-element.ensures x e (sequence w lo hi e) f.0 (f.1 ∙ ap (λ f. Some f) q) refl) x f
