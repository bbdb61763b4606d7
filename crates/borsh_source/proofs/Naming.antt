-- Steps towards the name of a written type.
use Rattle.std.proofs.Common.{◌≡◌, ℕ, ◌+◌, List, [], ◌∷◌, ◌++◌, take, Some, refl, sym, ◌∙◌, ap, subst, String, Global, Vec}
use Rattle.std.specs.Prelude.{slice_get, string_bytes, None}
use Rattle.std.specs.Borrow.{Bor}
use Rattle.std.proofs.lemmas.List.{append-nil}
use Rattle.borsh_definitions.specs.Described.{DefinitionMap}
use Rattle.borsh_source.specs.Views.{Stands, named, stands, Used, given_of, IsItem}
use Rattle.borsh_source.specs.Numbers.{Evaluates}
use Rattle.borsh_source.specs.Forms.{Entry, form}
use Rattle.borsh_source.specs.Meaning.{IsFormatType, Means, MeansAll, ItemMeans, Gives, GivesOne, of_parameter, of_format, of_alias, of_item, of_own, IsOwn, name_given, means_more, gives_more}
use Rattle.borsh_source.specs.Heads.{IsHead, ArrayMeans, FormMeans, of_form, FormBrings, use_of}
use Rattle.borsh_source.specs.Container.{Brought, AreThese}
use Rattle.borsh_source.proofs.Lists.{take_next}
use Rattle.borsh_source.proofs.Steps.{brought_then, brought_as, brought_none}
use Rattle.borsh_source.specs.declared.formats.Kind.{Kind}
use Rattle.borsh_source.specs.declared.formats.Kind.TheVariants.{Array as ArrayKind}
use Rattle.borsh_source.specs.declared.types.Head.TheVariants.{Given as GivenHead, Format, Array as ArrayHead, Item as ItemHead}
use Rattle.borsh_source.specs.declared.uses.Given.{Given}
use Rattle.borsh_source.specs.declared.tree.Source.{Source}
use Rattle.borsh_source.specs.declared.tree.Item.{Item}
use Rattle.borsh_source.specs.declared.tree.ItemKind.{ItemKind}
use Rattle.borsh_source.specs.declared.tree.ItemKind.TheVariants.{Alias}
use Rattle.borsh_source.specs.declared.tree.Parameter.{Parameter}
use Rattle.borsh_source.specs.declared.tree.«Type».{«Type» as Written}
use Rattle.borsh_source.specs.declared.tree.TypeKind.{TypeKind}
use Rattle.borsh_source.specs.declared.tree.TypeKind.TheVariants.{Path, Reference, Slice, Array, Tuple, Constant}

module _ (S : Source) (ps : List Parameter) (gs : List Stands) where
  head_form : (k : TypeKind) (s : Bor (List ℕ)) (j : Kind) (us : Vec ℕ Global) → IsHead S ps gs k (Format s j us) → IsFormatType S ps gs k s.now j us.items
  head_form (Path x bs) s j us h = h
  head_form (Reference t) s j us h = (h.1, h.2)
  head_form (Slice t) s j us h = (h.0, h.1, h.2)
  head_form (Array t e) s j us h = cc
  head_form (Tuple ts) s j us h = (h.1, h.2)
  head_form (Constant e) s j us h = absurd h

  head_given : (k : TypeKind) (g : Bor Given) → IsHead S ps gs k (GivenHead g) → (x : String Global) × (bs : Vec ℕ Global) × (k ≡ Path x bs) × (bs.items ≡ []) × (given_of ps gs (string_bytes x) ≡ Some (stands g.now))
  head_given (Path x bs) g h = (x, bs, refl, h.1, h.0)
  head_given (Reference t) g h = absurd h
  head_given (Slice t) g h = absurd h
  head_given (Array t e) g h = cc
  head_given (Tuple ts) g h = absurd h
  head_given (Constant e) g h = absurd h

  head_array : (k : TypeKind) (t e : ℕ) → IsHead S ps gs k (ArrayHead t e) → k ≡ Array t e
  head_array (Path x bs) t e h = absurd h
  head_array (Reference u) t e h = absurd h
  head_array (Slice u) t e h = absurd h
  head_array (Array u f) t e h = cc
  head_array (Tuple ts) t e h = absurd h
  head_array (Constant f) t e h = absurd h

  head_item : (k : TypeKind) (i : ℕ) (item : Bor Item) (cs : Bor (List ℕ)) → IsHead S ps gs k (ItemHead i item cs) → (x : String Global) × (bs : Vec ℕ Global) × (k ≡ Path x bs) × (given_of ps gs (string_bytes x) ≡ None) × IsItem S (string_bytes x) i item.now × (cs.now ≡ bs.items)
  head_item (Path x bs) i item cs h = (x, bs, refl, h.0, h.1, h.2)
  head_item (Reference t) i item cs h = absurd h
  head_item (Slice t) i item cs h = absurd h
  head_item (Array t e) i item cs h = cc
  head_item (Tuple ts) i item cs h = absurd h
  head_item (Constant e) i item cs h = absurd h

  module _ (t : ℕ) (w : Written) (at : slice_get S.types.items t ≡ Some w) where
    -- a parameter
    pub named_given : (g : Bor Given) (n : List ℕ) (d : DefinitionMap) (u : List Used) → IsHead S ps gs w.kind (GivenHead g) → stands g.now ≡ named n → Brought (Means S ps gs t n) d d u u
    named_given g n d u h e = let r = head_given w.kind g h in brought_none d u (of_parameter at r.2 r.3 (r.4 ∙ ap (λ z. Some z) e))

    -- a type of the format
    pub named_form : {a b c : DefinitionMap} {u v q : List Used} (s : Bor (List ℕ)) (j : Kind) (us : Vec ℕ Global) (ts : List ℕ) (ns ms : List (List ℕ)) (n : List ℕ) → IsHead S ps gs w.kind (Format s j us) → ts ≡ us.items → ms ≡ ns → Brought (MeansAll S ps gs ts ns) a b u v → Brought (FormBrings s.now j ms n) b c v q → Brought (Means S ps gs t n) a c u q
    named_form s j us ts ns ms n h e g p f = brought_then p f (λ ds es xs ys m k. subst (λ l. Means S ps gs t n (ds ++ es) l) (sym (ap (λ l. xs ++ l) k.1 ∙ append-nil xs)) (of_format s.now j at (head_form w.kind s j us h) (subst (λ l. MeansAll S ps gs l ns ds xs) e m) (subst (λ l. form s.now j l ≡ Some (n, es)) g k.0)))

    of_array : (el e k : ℕ) (n : List ℕ) (ds : List Entry) (us : List Used) → w.kind ≡ Array el e → Evaluates S ps gs e k → FormMeans S ps gs [] (ArrayKind k) (el ∷ []) n ds us → Means S ps gs t n ds us
    of_array el e k n _ _ q v (of_form m f) = of_format [] (ArrayKind k) at (subst (λ z. IsFormatType S ps gs z [] (ArrayKind k) (el ∷ [])) (sym q) (k, v, refl, refl)) m f

    -- an array
    pub named_array : {a c : DefinitionMap} {u q : List Used} (el e : ℕ) (n : List ℕ) → IsHead S ps gs w.kind (ArrayHead el e) → Brought (ArrayMeans S ps gs el e n) a c u q → Brought (Means S ps gs t n) a c u q
    named_array el e n h p = brought_as p (λ ds us m. of_array el e m.0 n ds us (head_array w.kind el e h) m.1 m.2)

    -- an item
    pub named_item : {a b c : DefinitionMap} {u v q : List Used} (i : ℕ) (item : Bor Item) (cs : Bor (List ℕ)) (hs : List Stands) (n : List ℕ) → IsHead S ps gs w.kind (ItemHead i item cs) → Brought (Gives S ps gs item.now.kind item.now.parameters.items cs.now hs) a b u v → Brought (ItemMeans S i item.now hs n) b c v q → Brought (Means S ps gs t n) a c u q
    named_item i item cs hs n h p m =
        let r = head_item w.kind i item cs h in
        brought_then p m (λ ds es xs ys g e. of_item at r.2 r.3 r.4 (subst (λ l. Gives S ps gs item.now.kind item.now.parameters.items l hs ds xs) r.5 g) e)

  -- one type more
  pub all_more : {a b c : DefinitionMap} {u v q : List Used} (ts : List ℕ) (i t : ℕ) (ns ms : List (List ℕ)) (n : List ℕ) → slice_get ts i ≡ Some t → ms ≡ ns ++ n ∷ [] → Brought (MeansAll S ps gs (take i ts) ns) a b u v → Brought (Means S ps gs t n) b c v q → Brought (MeansAll S ps gs (take (i + 1) ts) ms) a c u q
  all_more ts i t ns ms n e f p m = brought_then p m (λ ds es xs ys g h. subst (λ l. MeansAll S ps gs l ms (ds ++ es) (xs ++ ys)) (sym (take_next ts i e)) (subst (λ l. MeansAll S ps gs (take i ts ++ t ∷ []) l (ds ++ es) (xs ++ ys)) (sym f) (means_more g h)))

  -- one argument more
  pub given_more : {a b c : DefinitionMap} {u v q : List Used} (k : ItemKind) (rs : List Parameter) (bs : List ℕ) (i t : ℕ) (r : Parameter) (hs js : List Stands) (h : Stands) → slice_get rs i ≡ Some r → slice_get bs i ≡ Some t → js ≡ hs ++ h ∷ [] → Brought (Gives S ps gs k (take i rs) (take i bs) hs) a b u v → Brought (GivesOne S ps gs k r t h) b c v q → Brought (Gives S ps gs k (take (i + 1) rs) (take (i + 1) bs) js) a c u q
  given_more k rs bs i t r hs js h e f g p m = brought_then p m (λ ds es xs ys y z. subst (λ l. Gives S ps gs k l (take (i + 1) bs) js (ds ++ es) (xs ++ ys)) (sym (take_next rs i e)) (subst (λ l. Gives S ps gs k (take i rs ++ r ∷ []) l js (ds ++ es) (xs ++ ys)) (sym (take_next bs i f)) (subst (λ l. Gives S ps gs k (take i rs ++ r ∷ []) (take i bs ++ t ∷ []) l (ds ++ es) (xs ++ ys)) (sym g) (gives_more y z))))

-- an array, with what its element brings
pub array_brought : (S : Source) (ps : List Parameter) (gs : List Stands) {a b c : DefinitionMap} {u v q : List Used} (t e k : ℕ) (ns ms : List (List ℕ)) (n : List ℕ) → Evaluates S ps gs e k → ms ≡ ns → Brought (MeansAll S ps gs (t ∷ []) ns) a b u v → Brought (FormBrings [] (ArrayKind k) ms n) b c v q → Brought (ArrayMeans S ps gs t e n) a c u q
array_brought S ps gs t e k ns ms n h g p f = brought_then p f (λ ds es xs ys m z. (k, h, subst (λ l. FormMeans S ps gs [] (ArrayKind k) (t ∷ []) n (ds ++ es) l) (sym (ap (λ l. xs ++ l) z.1 ∙ append-nil xs)) (of_form m (subst (λ l. form [] (ArrayKind k) l ≡ Some (n, es)) g z.0))))

-- an alias
pub named_alias : (S : Source) (i : ℕ) (item : Item) (hs : List Stands) (t : ℕ) (n : List ℕ) (ps : List Parameter) (gs : List Stands) {a c : DefinitionMap} {u q : List Used} → item.kind ≡ Alias t → ps ≡ item.parameters.items → gs ≡ hs → Brought (Means S ps gs t n) a c u q → Brought (ItemMeans S i item hs n) a c u q
named_alias S i item hs t n ps gs k e g p = brought_as p (λ ds us m. of_alias k (subst (λ l. Means S l hs t n ds us) e (subst (λ l. Means S ps l t n ds us) g m)))

-- a struct or an enum
pub named_own : (S : Source) (i : ℕ) (item : Item) (hs : List Stands) (n : List ℕ) {a c : DefinitionMap} {u q : List Used} → IsOwn item.kind → n ≡ name_given (string_bytes item.name) hs → Brought (AreThese [] (use_of i hs ∷ [])) a c u q → Brought (ItemMeans S i item hs n) a c u q
named_own S i item hs n own e p = brought_as p (λ ds us h. subst (λ l. ItemMeans S i item hs n l us) (sym h.0) (subst (λ l. ItemMeans S i item hs n [] l) (sym h.1) (subst (λ z. ItemMeans S i item hs z [] (use_of i hs ∷ [])) (sym e) (of_own own))))
