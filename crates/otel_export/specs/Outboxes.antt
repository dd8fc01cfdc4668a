-- What an outbox keeps, and what a sending does to it and to a writer.
use Rattle.std.specs.Prelude.{◌≡◌, ℕ, ◌-◌, ◌<◌, List, [], ◌∷◌, ◌++◌, length, Bool, IsTrue, ◌==◌, ◌≢◌, ◌⊎◌, ◌↔◌, if◌then◌else◌, slice_index_or}
use Rattle.std.specs.List.{All, ends_with}
use Rattle.std.specs.Io.KnownBytes.{Appends, Keeps}
use Rattle.std.specs.declared.option.Option.{Option}

-- an outbox: how many bytes may wait, the lines that wait, and whether a part of the first of them was written
pub record Unsent : Type 0 where
  pub budget : ℕ
  pub waiting : List ℕ
  pub is_cut : Bool

-- the line break
abbrev pub line_break : List ℕ
line_break = 10 ∷ []

-- a line with a line break at its end
abbrev pub ended : List ℕ → List ℕ
ended line = if ends_with (λ a b. a == b) line line_break then line else line ++ line_break

-- lines: the last byte, if there is one, is a line break
abbrev pub AreLines : List ℕ → Type 0
AreLines bytes = slice_index_or bytes (length bytes - 1) 10 ≡ 10

-- Lines in front of those that waited are handed over, and these and those that wait now are all that waited.
abbrev pub HandsOver : Unsent → Unsent → Type 0
HandsOver old new = (handed : List ℕ) × (old.waiting ≡ handed ++ new.waiting) × AreLines handed

-- what ends the line that the last sending cut
abbrev pub close_of : Unsent → List ℕ
close_of outbox = if outbox.is_cut then line_break else []

-- A sending hands over the lines in front and forgets them. Of the next line it may write a part, and that line waits
-- whole. `before` and `after` are the bytes that the writer holds, where they are known.
pub record Sends (old new : Unsent) (before after : Option (List ℕ)) : Type 0 where
  pub handed : List ℕ
  pub part : List ℕ
  pub ordered : old.waiting ≡ handed ++ new.waiting
  pub whole : AreLines handed
  pub begun : (rest : List ℕ) × (new.waiting ≡ part ++ rest)
  pub unfinished : All (λ byte. byte ≢ 10) part
  pub cut : IsTrue new.is_cut ↔ (0 < length part)
  pub written : Appends before after (close_of old ++ handed ++ part)

-- a sending that could write nothing, or one that hands over
abbrev pub SendsOrKeeps : Unsent → Unsent → Option (List ℕ) → Option (List ℕ) → Type 0
SendsOrKeeps old new before after = ((new ≡ old) × Keeps before after) ⊎ Sends old new before after
