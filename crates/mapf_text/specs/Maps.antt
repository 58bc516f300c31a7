-- Map texts: the grid that bytes spell, and the errors.
use Rattle.std.specs.Prelude.{◌≡◌, ◌≢◌, ◌⊎◌, ℕ, ◌+◌, ◌==◌, ◌||◌, ◌<◌, ◌≤◌, Bool, true, false, List, [], ◌∷◌, Option}
use Rattle.std.specs.Prelude.{Some, None, IsSome, Result, Ok, Err, length, map, take, drop, slice_index, slice_index_or}
use Rattle.std.specs.Prelude.{codes, if◌then◌else◌}
use Rattle.std.specs.List.{concat}
use Rattle.mapf_model.specs.Grid.{GridMap}
use Rattle.mapf_model.specs.Limits.{greatest_side}
use Rattle.mapf_text.specs.Lines.{lines_of}
use Rattle.mapf_text.specs.Words.{is_blank_line, words_of}
use Rattle.mapf_text.specs.Numbers.{SpellsNumber}
use Rattle.mapf_text.specs.declared.map_fault.MapFault.{MapFault}
use Rattle.mapf_text.specs.declared.map_fault.MapFault.TheVariants.{M1, M2, M3, M4, M5, M6, M7, M8, M9, Memory}
use Rattle.mapf_text.specs.declared.header.NotSize.{NotSize}
use Rattle.mapf_text.specs.declared.header.NotSize.TheVariants.{Absent, OutOfRange}

-- the first of the lines is `type octile`, and the rest follow it
pub record AfterType (lines rest : List (List ℕ)) : Type 0 where
  pub line : List ℕ
  pub first : lines ≡ line ∷ rest
  pub words : words_of line ≡ codes "type" ∷ codes "octile" ∷ []

-- a line of a name and digits that spell this number
pub record IsSizeLine (name line : List ℕ) (size : ℕ) : Type 0 where
  pub digits : List ℕ
  pub words : words_of line ≡ name ∷ digits ∷ []
  pub number : SpellsNumber digits size

-- the first of the lines has this name and number, and the rest follow it
pub record AfterSize (name : List ℕ) (lines : List (List ℕ)) (size : ℕ) (rest : List (List ℕ)) : Type 0 where
  pub line : List ℕ
  pub first : lines ≡ line ∷ rest
  pub is_size : IsSizeLine name line size

-- the first of the lines is `map`, and the rest follow it
pub record AfterMap (lines rest : List (List ℕ)) : Type 0 where
  pub line : List ℕ
  pub first : lines ≡ line ∷ rest
  pub words : words_of line ≡ codes "map" ∷ []

-- a width or a height that a map may have
abbrev pub IsSize : ℕ → Type 0
IsSize size = (1 ≤ size) × (size ≤ greatest_side)

-- the first two lines are `type octile` and a height
pub record HasHeight (lines : List (List ℕ)) (height : ℕ) (rest : List (List ℕ)) : Type 0 where
  pub after_type : List (List ℕ)
  pub is_type : AfterType lines after_type
  pub is_height : AfterSize (codes "height") after_type height rest

-- the first three lines are `type octile`, a height in range and a width
pub record HasWidth (lines : List (List ℕ)) (height width : ℕ) (rest : List (List ℕ)) : Type 0 where
  pub after_height : List (List ℕ)
  pub has_height : HasHeight lines height after_height
  pub height_in_range : IsSize height
  pub is_width : AfterSize (codes "width") after_height width rest

-- the first four lines are `type octile`, a height and a width in range, and `map`
pub record IsHeader (lines : List (List ℕ)) (height width : ℕ) (rest : List (List ℕ)) : Type 0 where
  pub after_width : List (List ℕ)
  pub has_width : HasWidth lines height width after_width
  pub width_in_range : IsSize width
  pub is_map : AfterMap after_width rest

-- whether the cell of a byte is free: `.`, `G` and `S` are, `@`, `O`, `T` and `W` aren't, and no other byte is a cell
abbrev pub flag_of : ℕ → Option Bool
flag_of b =
    if (b == 46) || (b == 71) || (b == 83) then Some true
    else (if (b == 64) || (b == 79) || (b == 84) || (b == 87) then Some false else None)

-- the first lines are so many rows of this width, and these are the flags of their bytes, row by row
pub record HasRows (lines : List (List ℕ)) (height width : ℕ) (free : List Bool) : Type 0 where
  pub enough : height ≤ length lines
  pub widths : (y : ℕ) → y < height → length (slice_index_or lines y []) ≡ width
  pub flags : map flag_of (concat (take height lines)) ≡ map Some free

-- the header and the rows of the grid, and then only blank lines
pub record SpellsMap (bytes : List ℕ) (grid : GridMap) : Type 0 where
  pub body : List (List ℕ)
  pub header : IsHeader (lines_of bytes) grid.height grid.width body
  pub rows : HasRows body grid.height grid.width grid.free
  pub blank : (n : ℕ) → is_blank_line (slice_index_or (drop grid.height body) n []) ≡ true

-- the row's first byte that isn't a cell has this index
pub record HasUnknownAt (row : List ℕ) (x : ℕ) : Type 0 where
  pub within : x < length row
  pub unknown : flag_of (slice_index row x) ≡ None
  pub first : (k : ℕ) → k < x → IsSome (flag_of (slice_index row k))

-- the first line that isn't blank has this index
pub record HasTextAt (lines : List (List ℕ)) (n : ℕ) : Type 0 where
  pub text : is_blank_line (slice_index_or lines n []) ≡ false
  pub first : (k : ℕ) → k < n → is_blank_line (slice_index_or lines k []) ≡ true

-- what each error after the header says of the lines there; out of memory says nothing of them
abbrev pub HasBodyFault : ℕ → ℕ → List (List ℕ) → MapFault → Type 0
HasBodyFault height width body (M6 y) =
    (y < height) × (y < length body) × ((free : List Bool) × HasRows body y width free)
    × (length (slice_index_or body y []) ≢ width)
HasBodyFault height width body (M7 x y) =
    (y < height) × (y < length body) × ((free : List Bool) × HasRows body y width free)
    × (length (slice_index_or body y []) ≡ width) × HasUnknownAt (slice_index_or body y []) x
HasBodyFault height width body (M8 rows) =
    (rows < height) × (length body ≡ rows) × ((free : List Bool) × HasRows body rows width free)
HasBodyFault height width body (M9 line) =
    ((free : List Bool) × HasRows body height width free)
    × ((n : ℕ) × HasTextAt (drop height body) n × (line ≡ 5 + height + n))
HasBodyFault height width body Memory = Unit {0}
HasBodyFault height width body _ = ⊥

-- what each error says of the lines of a text: the lines before its location are correct, and its defect is there
abbrev pub HasMapFault : List (List ℕ) → MapFault → Type 0
HasMapFault lines M1 = (rest : List (List ℕ)) → AfterType lines rest → ⊥
HasMapFault lines M2 =
    (rest : List (List ℕ)) × AfterType lines rest
    × ((height : ℕ) (after : List (List ℕ)) → AfterSize (codes "height") rest height after → ⊥)
HasMapFault lines M3 =
    (height : ℕ) × (rest : List (List ℕ)) × HasHeight lines height rest × IsSize height
    × ((width : ℕ) (after : List (List ℕ)) → AfterSize (codes "width") rest width after → ⊥)
HasMapFault lines (M4 line) =
    ((line ≡ 2) × ((height : ℕ) × (rest : List (List ℕ)) × HasHeight lines height rest × (IsSize height → ⊥)))
    ⊎ ((line ≡ 3) × ((height width : ℕ) × (rest : List (List ℕ)) × HasWidth lines height width rest
    × (IsSize width → ⊥)))
HasMapFault lines M5 =
    (height width : ℕ) × (rest : List (List ℕ)) × HasWidth lines height width rest × IsSize width
    × ((after : List (List ℕ)) → AfterMap rest after → ⊥)
HasMapFault lines fault =
    (height width : ℕ) × (body : List (List ℕ)) × IsHeader lines height width body
    × HasBodyFault height width body fault

-- the size in a line, or why there is none
abbrev pub SizeIn : List ℕ → List ℕ → Result ℕ NotSize → Type 0
SizeIn name line (Ok size) = IsSizeLine name line size × IsSize size
SizeIn name line (Err Absent) = (size : ℕ) → IsSizeLine name line size → ⊥
SizeIn name line (Err OutOfRange) = (size : ℕ) × IsSizeLine name line size × (IsSize size → ⊥)

-- why the first of the lines has no size
abbrev pub HasNoSize : List ℕ → List (List ℕ) → NotSize → Type 0
HasNoSize name lines Absent = (size : ℕ) (rest : List (List ℕ)) → AfterSize name lines size rest → ⊥
HasNoSize name lines OutOfRange =
    (size : ℕ) × (rest : List (List ℕ)) × AfterSize name lines size rest × (IsSize size → ⊥)

-- bytes spell at most one grid
abbrev pub SpellsOneMap : Type 0
SpellsOneMap = (bytes : List ℕ) (grid other : GridMap) → SpellsMap bytes grid → SpellsMap bytes other → grid ≡ other
