-- That errors are true.
use Rattle.std.proofs.Common.{◌≡◌, ℕ, List, inl, inr, Some, None, refl, sym, subst}
use Rattle.std.specs.Prelude.{Vec, slice_get, string_bytes}
use Rattle.std.specs.Global.{Global}
use Rattle.std.specs.Borrow.{Bor}
use Rattle.borsh_walks.specs.Errors.{broken_rule}
use Rattle.borsh_walks.specs.declared.error.SchemaContainerValidateError.{SchemaContainerValidateError}
use Rattle.borsh_source.specs.Container.{SaysFault}
use Rattle.borsh_source.specs.Errors.{IsNoFormat, IsRefusal, LeavesTagsOpen}
use Rattle.borsh_source.specs.Formats.{IsOtherKind, widths, non_zero_widths}
use Rattle.borsh_source.specs.Lists.{IsListed}
use Rattle.borsh_source.specs.Meaning.{HaveNone}
use Rattle.borsh_source.specs.declared.error.CompileError.{CompileError}
use Rattle.borsh_source.specs.declared.error.CompileError.TheVariants.{Refused, OutOfMemory}
use Rattle.borsh_source.specs.declared.error.Cause.TheVariants.{Rule}
use Rattle.borsh_source.specs.declared.tree.Source.{Source}
use Rattle.borsh_source.specs.declared.tree.Item.{Item}
use Rattle.borsh_source.specs.declared.tree.Variant.{Variant}
use Rattle.borsh_source.specs.declared.tree.ItemKind.TheVariants.{Enum}
use Rattle.borsh_source.specs.declared.formats.Kind.{Kind}
use Rattle.borsh_source.specs.declared.formats.Kind.TheVariants.{Bytes, Text, Octets, Phantom, Through, List as ListKind, Map, Option as OptionKind, Result as ResultKind, Range, RangeFrom, RangeTo, RangeFull, Ipv4Addr, Ipv6Addr, IpAddr, SocketAddrV4, SocketAddrV6, SocketAddr, Tuple, Array}

pub no_format : (x : List ℕ) → ((stem : List ℕ) (n : ℕ) → IsListed (x, stem, n) widths → ⊥) → ((stem : List ℕ) (n : ℕ) → IsListed (x, stem, n) non_zero_widths → ⊥) → ((k : Kind) → IsOtherKind x k → ⊥) → IsNoFormat x
no_format x w z o stem (Bytes n) h = elim h [ inl a ↦ w stem n a | inr b ↦ z stem n b ]
no_format x w z o stem Text h = o Text h.1
no_format x w z o stem Octets h = o Octets h.1
no_format x w z o stem Phantom h = o Phantom h.1
no_format x w z o stem Through h = o Through h.1
no_format x w z o stem ListKind h = o ListKind h.1
no_format x w z o stem Map h = o Map h.1
no_format x w z o stem OptionKind h = o OptionKind h.1
no_format x w z o stem ResultKind h = o ResultKind h.1
no_format x w z o stem Range h = o Range h.1
no_format x w z o stem RangeFrom h = o RangeFrom h.1
no_format x w z o stem RangeTo h = o RangeTo h.1
no_format x w z o stem RangeFull h = o RangeFull h.1
no_format x w z o stem Ipv4Addr h = o Ipv4Addr h.1
no_format x w z o stem Ipv6Addr h = o Ipv6Addr h.1
no_format x w z o stem IpAddr h = o IpAddr h.1
no_format x w z o stem SocketAddrV4 h = o SocketAddrV4 h.1
no_format x w z o stem SocketAddrV6 h = o SocketAddrV6 h.1
no_format x w z o stem SocketAddr h = o SocketAddr h.1
no_format x w z o stem Tuple h = absurd h
no_format x w z o stem (Array n) h = absurd h

pub fault_said : (f : SchemaContainerValidateError) (rule : Bor (List ℕ)) (x : List ℕ) (e : CompileError) → broken_rule f ≡ Some (rule.now, x) → IsRefusal (Rule rule) x e → SaysFault f e
fault_said f rule x (Refused place cause name) h r = (rule, r.0, subst (λ n. broken_rule f ≡ Some (rule.now, n)) (sym r.1) h)
fault_said f rule x OutOfMemory h r = tt

pub undecided : (S : Source) (i : ℕ) (item : Item) (vs : Vec Variant Global) → slice_get S.items.items i ≡ Some item → item.kind ≡ Enum None vs → (HaveNone vs.items → ⊥) → LeavesTagsOpen S (string_bytes item.name)
undecided S i item vs at kind some = record { at = i; item = item; variants = vs; named = record { at = at; name = refl }; kind = kind; some = some }
