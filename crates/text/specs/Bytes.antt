-- Where the first piece of a list of bytes ends, and what follows it.
use Rattle.std.specs.Prelude.{ℕ, suc, cond, List, [], ◌∷◌, eqb}
use Rattle.meaning.specs.Reading.{split}

-- how many bytes stand before the first b; all of them where there is no b
abbrev pub until : ℕ → List ℕ → ℕ
until b [] = 0
until b (x ∷ xs) = let r = suc (until b xs) in cond (eqb x b) 0 r

-- the pieces that follow a parting byte at the front
abbrev pub after : ℕ → List ℕ → List (List ℕ)
after b [] = []
after b (x ∷ xs) = split b xs
