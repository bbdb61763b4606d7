-- The numbers that expressions are.
use Rattle.std.specs.Prelude.{◌≡◌, ℕ, ◌+◌, ◌-◌, ◌*◌, ◌/◌, ◌%◌, ◌^◌, ◌<◌, ◌≤◌, List, [], Some, None, string_bytes, slice_get, bit_and, bit_or, bit_xor}
use Rattle.borsh_source.specs.Views.{Stands, number, given_of, IsItem}
use Rattle.borsh_source.specs.declared.tree.Source.{Source}
use Rattle.borsh_source.specs.declared.tree.Item.{Item}
use Rattle.borsh_source.specs.declared.tree.ItemKind.TheVariants.{Constant}
use Rattle.borsh_source.specs.declared.tree.Parameter.{Parameter}
use Rattle.borsh_source.specs.declared.tree.Expression.{Expression}
use Rattle.borsh_source.specs.declared.tree.ExpressionKind.TheVariants.{Number, Name, Binary}
use Rattle.borsh_source.specs.declared.tree.Operator.{Operator}
use Rattle.borsh_source.specs.declared.tree.Operator.TheVariants.{Add, Subtract, Multiply, Divide, Remainder, ShiftLeft, ShiftRight, And, Or, Xor}
use Rattle.std.specs.Prelude.{String}
use Rattle.std.specs.Global.{Global}

-- the operator gives this number of two numbers
abbrev pub Applies : Operator → ℕ → ℕ → ℕ → Type 0
Applies Add a b n = n ≡ a + b
Applies Subtract a b n = (b ≤ a) × (n ≡ a - b)
Applies Multiply a b n = n ≡ a * b
Applies Divide a b n = (0 < b) × (n ≡ a / b)
Applies Remainder a b n = (0 < b) × (n ≡ a % b)
Applies ShiftLeft a b n = n ≡ a * 2 ^ b
Applies ShiftRight a b n = n ≡ a / 2 ^ b
Applies And a b n = n ≡ bit_and a b
Applies Or a b n = n ≡ bit_or a b
Applies Xor a b n = n ≡ bit_xor a b

mutual
  -- the expression at an index is the number, where the parameters stand for these
  pub data Evaluates (S : Source) : List Parameter → List Stands → ℕ → ℕ → Type 0 where
    literal : {ps : List Parameter} {gs : List Stands} {e n : ℕ} {w : Expression} → slice_get S.expressions.items e ≡ Some w → w.kind ≡ Number n → Evaluates S ps gs e n
    name : {ps : List Parameter} {gs : List Stands} {e n : ℕ} {w : Expression} {x : String Global} → slice_get S.expressions.items e ≡ Some w → w.kind ≡ Name x → IsNumber S ps gs (string_bytes x) n → Evaluates S ps gs e n
    binary : {ps : List Parameter} {gs : List Stands} {e a b j k n : ℕ} {o : Operator} {w : Expression} → slice_get S.expressions.items e ≡ Some w → w.kind ≡ Binary o a b → Evaluates S ps gs a j → Evaluates S ps gs b k → Applies o j k n → Evaluates S ps gs e n

  -- the name is that of a parameter that stands for the number, or else of a constant that is the number
  pub data IsNumber (S : Source) : List Parameter → List Stands → List ℕ → ℕ → Type 0 where
    parameter : {ps : List Parameter} {gs : List Stands} {x : List ℕ} {n : ℕ} → given_of ps gs x ≡ Some (number n) → IsNumber S ps gs x n
    constant : {ps : List Parameter} {gs : List Stands} {x : List ℕ} {i e n : ℕ} {item : Item} → given_of ps gs x ≡ None → IsItem S x i item → item.kind ≡ Constant e → Evaluates S [] [] e n → IsNumber S ps gs x n
