-- The items that words make: each a name and a value, in one word or in two.
use Rattle.std.specs.Prelude.{ℕ, Bool, not, ◌==◌, ◌&&◌, List, [], ◌∷◌, Option, Some, None, ◌++◌}
use Rattle.std.specs.Prelude.{find}
use Rattle.std.specs.Prelude.{if◌then◌else◌, option_map, option_and_then, is_some, true}
use Rattle.std.specs.List.{before_first, after_first, list_any}
use Rattle.std.specs.Str.{bytes_eq}

-- a text, as its bytes
abbrev pub Text : Type 0
Text = List ℕ

-- an option by its name, and the value that is given for it
pub record Item : Type 0 where
  pub name : Text
  pub value : Text

-- what follows a hyphen (45)
abbrev pub after_hyphen : Text → Option Text
after_hyphen [] = None
after_hyphen (c ∷ rest) = if c == 45 then Some rest else None

-- the text, where it has a byte
abbrev pub not_empty : Text → Option Text
not_empty [] = None
not_empty (c ∷ rest) = Some (c ∷ rest)

-- what follows `--` in a longer word
abbrev pub after_hyphens : Text → Option Text
after_hyphens word = option_and_then not_empty (option_and_then after_hyphen (after_hyphen word))

-- the byte that ends a name (61)
abbrev pub is_equals : ℕ → Bool
is_equals c = c == 61

-- the name in such a word: what stands before its first `=`
abbrev pub name_part : Text → Text
name_part text = before_first is_equals text

-- whether the value stands in the same word
abbrev pub has_value_part : Text → Bool
has_value_part text = list_any is_equals text

-- the value in such a word: what stands after its first `=`
abbrev pub value_part : Text → Text
value_part text = after_first is_equals text

-- an item in front of the others
abbrev pub and_item : Text → Text → Option (List Item) → Option (List Item)
and_item name value rest = option_map (λ items. record { name = name; value = value } ∷ items) rest

-- `--name=value`, or `--name` with its value in the next word; `next` reads the words after this
abbrev pub from_name : Option Text → (Option Text → Option (List Item)) → Option (List Item)
from_name None next = None
from_name (Some text) next =
    if has_value_part text then and_item (name_part text) (value_part text) (next None)
    else next (Some (name_part text))

-- the items of the words; where a name stands before them, the first word is its value
unfoldable pub items_from : List Text → Option Text → Option (List Item)
items_from [] None = Some []
items_from [] (Some name) = None
items_from (word ∷ words) None = from_name (after_hyphens word) (items_from words)
items_from (word ∷ words) (Some name) = and_item name word (items_from words None)

-- the items that the words make; none where they are no sequence of items
abbrev pub items_of : List Text → Option (List Item)
items_of words = items_from words None

-- the first item of this name
abbrev pub item_named : Text → List Item → Option Item
item_named name items = find (λ i. bytes_eq i.name name) items

-- whether an item has this name
abbrev pub is_given : Text → List Item → Bool
is_given name items = is_some (item_named name items)

-- the value that is given for this name
abbrev pub value_of : Text → List Item → Option Text
value_of name items = option_map (λ i. i.value) (item_named name items)

-- whether the name is one of these
abbrev pub is_among : List Text → Text → Bool
is_among names name = list_any (λ n. bytes_eq n name) names

-- each item has one of the names, and one that no item before it has
abbrev pub names_once : List Text → List Item → List Item → Bool
names_once names before [] = true
names_once names before (i ∷ rest) = is_among names i.name
    && (not (is_given i.name before) && names_once names (before ++ i ∷ []) rest)
