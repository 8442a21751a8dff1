-- Records of document 01's catalogue 5 1 3, by computation.
use Rattle.std.specs.Prelude.{◌≡◌, refl, [], ◌∷◌}
use Rattle.regular.specs.Book.{each, header, columns_record, pattern_record, book_length}

header_5_1_3 : header 5 1 3 3 ≡ 1 ∷ 5 ∷ 1 ∷ 3 ∷ 3 ∷ 0 ∷ []
header_5_1_3 = refl

header_largest : header 16 9 3 65535 ≡ 1 ∷ 16 ∷ 9 ∷ 3 ∷ 255 ∷ 255 ∷ []
header_largest = refl

columns_first : columns_record 5 (1 ∷ 2 ∷ 3 ∷ 4 ∷ 8 ∷ []) ≡ 37 ∷ 1 ∷ 2 ∷ 3 ∷ 4 ∷ 8 ∷ []
unfolding each
columns_first = refl

pattern_first : pattern_record 5 (0 ∷ 0 ∷ 1 ∷ 0 ∷ 0 ∷ []) ≡ 69 ∷ 1 ∷ 0 ∷ 0 ∷ 0 ∷ 0 ∷ 0 ∷ []
unfolding each
pattern_first = refl

-- a count above 255, and no count below three factors
pattern_large : pattern_record 3 (0 ∷ 0 ∷ 280 ∷ []) ≡ 67 ∷ 24 ∷ 1 ∷ []
unfolding each
pattern_large = refl

pattern_empty : pattern_record 2 (0 ∷ 0 ∷ []) ≡ 66 ∷ []
unfolding each
pattern_empty = refl

length_5_1_3 : book_length 5 3 ≡ 45
length_5_1_3 = refl
