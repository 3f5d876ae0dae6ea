-- What the words give of a table is read as it stands.
use Rattle.std.proofs.Common.{◌≡◌, ◌∙◌, ◌&&◌, ◌||◌, ℕ, Bool, cond, true, false, refl, sym, ap, List}
use Rattle.std.proofs.Common.{[], Option, Some, None, is_some, true≢false, codes}
use Rattle.std.specs.Prelude.{option_and_then, unwrap_or}
use Rattle.std.specs.List.{Contains}
use Rattle.std.specs.Option.{option_map_or}
use Rattle.std.specs.Str.{bytes_eq}
use Rattle.std.proofs.lemmas.Bool.{and_parts}
use Rattle.std.proofs.lemmas.Option.{same_Some}
use Rattle.std.proofs.lemmas.List.Elements.{All-contains}
use Rattle.std.proofs.lemmas.List.Sums.{AllPass-from_list_all}
use Rattle.std.proofs.lemmas.Slice.Eq.{bytes_eq-Decides}
use Rattle.oti_fields.specs.declared.codec.Codec.TheVariants.{Staircase}
use Rattle.loss_patterns.specs.Kinds.{loss_of}
use Rattle.loss_patterns.specs.Numbers.{number_in}
use Rattle.loss_patterns.specs.declared.kind.LossKind.TheVariants as loss
use Rattle.tool_base.specs.Items.{Item, Text, items_of, names_once, value_of}
use Rattle.tool_base.specs.Options.{CommandOption, Given, codec_of, given_by, is_value, names_of}
use Rattle.tool_base.specs.Options.{takes, takes_range, values_fit}
use Rattle.tool_base.specs.Table.{codec_option, loss_option, order_option}
use Rattle.tool_base.specs.Laws.{AnswersAreRead, CodecsAreRead, GivesText, LossesAreRead}
use Rattle.tool_base.specs.Laws.{NumbersAreRead, OrdersAreRead}
use Rattle.tool_base.specs.declared.options.ValueKind.TheVariants.{YesOrNo}

-- where the values fit, what stands for an option is one of its values
fitting : (options : List CommandOption) (items : List Item) (o : CommandOption) (text : Text)
    → values_fit options items ≡ true → Contains options o → value_of o.name items ≡ Some text
    → is_value o.values text ≡ true
fitting options items o text fit among is =
    let test : CommandOption → Bool = λ (p : CommandOption). option_map_or (is_value p.values)
    (value_of p.name items) true in
    ap (λ w. option_map_or (is_value o.values) w true) (sym is)
    ∙ All-contains (λ (p : CommandOption). test p ≡ true) options o
    (AllPass-from_list_all test options fit) among

-- what is given for an option is one of its values
passes : (options : List CommandOption) (words : List Text) (given : Given) (o : CommandOption)
    (text : Text) → GivesText options words given o text → is_value o.values text ≡ true
passes options words given o text g = go (items_of words) refl
  where
    both : List Item → Bool
    both items = names_once (names_of options) [] items && values_fit options items

    taken : List Item → Option Given
    taken items = cond (both items) (Some (given_by items)) None

    opened : (items : List Item) (b : Bool) → both items ≡ b → cond b (Some (given_by items)) None
        ≡ Some given → is_value o.values text ≡ true
    opened items true is e =
        let same : given_by items ≡ given = same_Some (given_by items) given e in
        fitting options items o text (and_parts _ _ is).1 g.among (ap (λ (f : Given). f o.name) same
        ∙ g.stands)
    opened items false is e = absurd (true≢false (sym (ap is_some e)))

    go : (found : Option (List Item)) → items_of words ≡ found → is_value o.values text ≡ true
    go None is = absurd (true≢false
        (sym (ap is_some (sym (ap (option_and_then taken) is) ∙ g.passes))))
    go (Some items) is = opened items (both items) refl (sym (ap (option_and_then taken) is)
        ∙ g.passes)

-- what is read of a text that has a meaning is this meaning, whatever the default is
meaning : {A : Type 0} (f : Text → Option A) (default : A) (r : Option Text) (text : Text)
    → r ≡ Some text → is_some (f text) ≡ true
    → f text ≡ Some (unwrap_or (option_and_then f r) default)
meaning f default r text is some = ap (λ q. option_and_then f q) (sym is)
    ∙ go (option_and_then f r) (ap (λ q. is_some (option_and_then f q)) is ∙ some)
  where
    go : (q : Option _) → is_some q ≡ true → q ≡ Some (unwrap_or q default)
    go None none = absurd (true≢false (sym none))
    go (Some x) there = refl

-- of two words, the one that is read is the one that is given
word_read : (one two text : Text) (default : Bool) (r : Option Text) → r ≡ Some text
    → (bytes_eq text one ≡ false → bytes_eq text two ≡ true)
    → text ≡ cond (option_map_or (λ (t : Text). bytes_eq t one) r default) one two
word_read one two text default r is other = go (bytes_eq text one) refl
  where
    read : option_map_or (λ (t : Text). bytes_eq t one) r default ≡ bytes_eq text one
    read = ap (λ q. option_map_or (λ (t : Text). bytes_eq t one) q default) is

    word : Bool → Text
    word b = cond b one two

    go : (b : Bool) → bytes_eq text one ≡ b
        → text ≡ cond (option_map_or (λ (t : Text). bytes_eq t one) r default) one two
    go true same = (bytes_eq-Decides text one).0 same ∙ sym (ap word (read ∙ same))
    go false same = (bytes_eq-Decides text two).0 (other same) ∙ sym (ap word (read ∙ same))

-- the other one of two tests
second_of : (a b : Bool) → (a || b) ≡ true → a ≡ false → b ≡ true
second_of true b either is = absurd (true≢false is)
second_of false b either is = either

first_of : (a b : Bool) → (a || b) ≡ true → b ≡ false → a ≡ true
first_of true b either is = refl
first_of false b either is = absurd (true≢false (sym either ∙ is))

pub numbers_are_read : NumbersAreRead
numbers_are_read options words given o text g = go (number_in o.low o.high text) refl
    (passes options words given (takes_range o) text g)
  where
    go : (q : Option ℕ) → number_in o.low o.high text ≡ q → is_some q ≡ true
        → (n : ℕ) × (number_in o.low o.high text ≡ Some n)
        × (option_and_then (number_in o.low o.high) (given o.name) ≡ Some n)
    go None is none = absurd (true≢false (sym none))
    go (Some n) is there = (n, is, ap (option_and_then (number_in o.low o.high)) g.stands ∙ is)

pub codecs_are_read : CodecsAreRead
codecs_are_read options words given text g = meaning codec_of Staircase (given codec_option.name)
    text g.stands (passes options words given codec_option text g)

pub losses_are_read : LossesAreRead
losses_are_read options words given text g = meaning loss_of loss.None (given loss_option.name) text
    g.stands (passes options words given loss_option text g)

pub orders_are_read : OrdersAreRead
orders_are_read options words given text g =
    word_read (codes "random") (codes "sent") text true (given order_option.name) g.stands
    (first_of _ _ (passes options words given order_option text g))

pub answers_are_read : AnswersAreRead
answers_are_read options words given name text g =
    word_read (codes "yes") (codes "no") text false (given name) g.stands
    (second_of _ _ (passes options words given (takes name YesOrNo) text g))
