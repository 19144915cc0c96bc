-- The order of refusals: for each two that one line can earn, with none between them that it could, a line that earns both is refused by
-- the first. Not every two can be earned by one line: what is no line of a form (3) cannot make one too long (7), and behind 3 `FS`, `FE`,
-- `FR`, an answer, `P` and a take have refusals of their own. Those of a class, and of takes, stand in ClassCases.
use Prim.Native.String.{String, ◌++◌}
use mathlib.Core.Path.{◌≡◌, refl}
use Rattle.paper.proofs.Cases.{ran, wrote, counted}

-- a text ten times
unfoldable pub ten : String → String
ten s = s ++ s ++ s ++ s ++ s ++ s ++ s ++ s ++ s ++ s

-- 257 bytes, one of them a control byte
unfoldable pub long_line : String
long_line = ten (ten "ZN") ++ ten "ZNZNZ" ++ "ZNZNZN\t\n"

-- a form that asks for nothing is stored under a name
unfoldable pub storing : String → String
storing name = "FS\"" ++ name ++ "\"\nQ1,0\nZT\nFE\n"

-- eight are stored, by 32 lines
unfoldable pub eight : String
eight =
    storing "1" ++ storing "2" ++ storing "3" ++ storing "4" ++ storing "5" ++ storing "6" ++ storing "7" ++ storing "8"

-- two bars
unfoldable pub bars : String
bars = "LO0,0,1,1\nLO0,0,1,1\n"

-- one of 40 lines is collected, by 41
unfoldable pub full : String
full = "FS\"X\"\nQ1,0\nZT\n" ++ ten bars ++ bars ++ bars ++ bars ++ bars ++ bars ++ bars ++ bars ++ bars ++ bars

pub order :
    -- 1 before 2
    (ran long_line ≡ wrote "" "1 1\n")
    -- 2 before 4
    × (ran "LX\t\n" ≡ wrote "" "1 2\n")
    -- 4 before 5
    × (ran "LX,\n" ≡ wrote "" "1 4\n")
    -- 5 before 6
    × (ran "P0,\n" ≡ wrote "" "1 5\n")
    -- 6 before 3
    × (ran "P0\n" ≡ wrote "" "1 6\n")
    -- 6 before 7, and 7 only of a form that is not spoiled: the next line is dropped
    × (ran (full ++ "LO0,0,0,1\nLO0,0,1,1\nFE\n") ≡ wrote "" "42 6\n44 8\n")
    × (ran (full ++ "LO0,0,1,1\nLO0,0,1,1\nFE\n") ≡ wrote "" "42 7\n44 8\n")
    -- 8 before 9
    × (ran "FS\"X\"\nN\nFE\n" ≡ wrote "" "2 3\n3 8\n")
    -- 9 before 11
    × (ran (eight ++ "FS\"X\"\nFE\n") ≡ wrote "" "34 9 1\n")
    -- 3 before 10 and before 12
    × (ran (storing "1" ++ "FR\"1\"\nFS\"1\"\nFR\"X\"\n") ≡ wrote "" "6 3\n7 3\n")
    -- in Answering 1 before 2 and 2 before 13
    × (ran (counted "-1" long_line "") ≡ wrote "" "9 1\n")
    × (ran (counted "-1" "\t" "") ≡ wrote "" "9 2\n")
    × (ran (counted "-1" "" "") ≡ wrote "" "9 13\n")
unfolding ran wrote counted ten long_line storing eight bars full
order = (refl, refl, refl, refl, refl, refl, refl, refl, refl, refl, refl, refl, refl)
