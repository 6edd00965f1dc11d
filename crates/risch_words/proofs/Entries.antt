-- Rows that hold one value each, as a list of ids with values.
use Rattle.std.proofs.Common.{◌≡◌, ◌∙◌, ◌||◌, refl, sym, ap, Bool, true, false, cond, List, [], ◌∷◌, ◌++◌, map, Option, Some, None, bytes_eq}
use Rattle.std.specs.Prelude.{find, option_and_then, slice_get}
use Rattle.std.specs.Option.{is_some, option_map_or, option_or}
use Rattle.clap.specs.Facts.{explicit_source}
use Rattle.clap.specs.Walk.{Row, Text, at_row, first_of, has_row, more_values, with_values, without}
use Rattle.clap.specs.Takes.{is_given}
use Rattle.clap.specs.declared.builder.value_parser.Reading.TheVariants.{AsWritten}
use Rattle.clap.specs.declared.parser.matches.ValueSource.TheVariants.{CommandLine}

-- an id with the value that was given for it
abbrev pub Entry : Type 0
Entry = Text × Text

abbrev pub row : Entry → Row
row e = record { id = e.0; values = e.1 ∷ []; count = None; source = Some CommandLine; reading = AsWritten }

abbrev pub rows : List Entry → List Row
rows es = map row es

-- the value of an id
abbrev pub value_at : Text → List Entry → Option Text
value_at name [] = None
value_at name (e ∷ es) = cond (bytes_eq e.0 name) (Some e.1) (value_at name es)

-- ---- what `clap` reads of the rows

pub first_of-rows : (name : Text) (es : List Entry) → first_of name (rows es) ≡ value_at name es
first_of-rows name [] = refl
first_of-rows name (e ∷ es) = go (bytes_eq e.0 name) (first_of-rows name es)
  where
    go : (b : Bool) → first_of name (rows es) ≡ value_at name es
        → option_and_then (λ (r : Row). slice_get r.values 0) (cond b (Some (row e)) (find (λ (r : Row). bytes_eq r.id name) (rows es))) ≡ cond b (Some e.1) (value_at name es)
    go true h = refl
    go false h = h

pub has_row-rows : (name : Text) (es : List Entry) → has_row name (rows es) ≡ is_some (value_at name es)
has_row-rows name [] = refl
has_row-rows name (e ∷ es) = go (bytes_eq e.0 name) (has_row-rows name es)
  where
    go : (b : Bool) → has_row name (rows es) ≡ is_some (value_at name es) → (b || has_row name (rows es)) ≡ is_some (cond b (Some e.1) (value_at name es))
    go true h = refl
    go false h = h

pub is_given-rows : (name : Text) (es : List Entry) → is_given name (rows es) ≡ is_some (value_at name es)
is_given-rows name [] = refl
is_given-rows name (e ∷ es) = go (bytes_eq e.0 name) (is_given-rows name es)
  where
    go : (b : Bool) → is_given name (rows es) ≡ is_some (value_at name es)
        → option_map_or (λ (r : Row). explicit_source r.source) (cond b (Some (row e)) (find (λ (r : Row). bytes_eq r.id name) (rows es))) false
        ≡ is_some (cond b (Some e.1) (value_at name es))
    go true h = refl
    go false h = h

-- ---- one more row

-- the rows where the id has none
at_row-none : (name : Text) (change : Row → List Row) (missing : List Row) (es : List Entry) → value_at name es ≡ None → at_row name change missing (rows es) ≡ rows es ++ missing
at_row-none name change missing [] none = refl
at_row-none name change missing (e ∷ es) none = go (bytes_eq e.0 name) none (at_row-none name change missing es)
  where
    go : (b : Bool) → cond b (Some e.1) (value_at name es) ≡ None → (value_at name es ≡ None → at_row name change missing (rows es) ≡ rows es ++ missing)
        → cond b (change (row e) ++ rows es) (row e ∷ at_row name change missing (rows es)) ≡ row e ∷ (rows es ++ missing)
    go true h next = cc
    go false h next = ap (λ rs. row e ∷ rs) (next h)

rows-append : (es fs : List Entry) → rows (es ++ fs) ≡ rows es ++ rows fs
rows-append [] fs = refl
rows-append (e ∷ es) fs = ap (λ rs. row e ∷ rs) (rows-append es fs)

nothing_more : (rs : List Row) → rs ++ [] ≡ rs
nothing_more [] = refl
nothing_more (r ∷ rs) = ap (λ xs. r ∷ xs) (nothing_more rs)

pub one_more_row : (name value : Text) (es : List Entry) → value_at name es ≡ None
    → with_values name AsWritten CommandLine (value ∷ []) (without name (rows es)) ≡ rows (es ++ (name, value) ∷ [])
one_more_row name value es none =
    ap (with_values name AsWritten CommandLine (value ∷ [])) (at_row-none name (λ _. []) [] es none ∙ nothing_more (rows es))
    ∙ at_row-none name (more_values CommandLine (value ∷ [])) (row (name, value) ∷ []) es none
    ∙ sym (rows-append es ((name, value) ∷ []))

pub value_at-append : (name other value : Text) (es : List Entry) → value_at name (es ++ (other, value) ∷ []) ≡ option_or (value_at name es) (cond (bytes_eq other name) (Some value) None)
value_at-append name other value [] = refl
value_at-append name other value (e ∷ es) = go (bytes_eq e.0 name) (value_at-append name other value es)
  where
    go : (b : Bool) → value_at name (es ++ (other, value) ∷ []) ≡ option_or (value_at name es) (cond (bytes_eq other name) (Some value) None)
        → cond b (Some e.1) (value_at name (es ++ (other, value) ∷ [])) ≡ option_or (cond b (Some e.1) (value_at name es)) (cond (bytes_eq other name) (Some value) None)
    go true h = refl
    go false h = h

-- the entries with one more, unless its id has one
abbrev pub unless_there : Option Text → Entry → List Entry → Option (List Entry)
unless_there None e es = Some (es ++ e ∷ [])
unless_there (Some text) e es = None

abbrev pub put : Option Entry → List Entry → Option (List Entry)
put None es = Some es
put (Some e) es = unless_there (value_at e.0 es) e es
