-- The marks of a compound file (MS-CFB 2.1, 2.2 and 2.6.1).
use Rattle.std.specs.Prelude.{ℕ, List, [], ◌∷◌}

-- the greatest number of a sector
abbrev pub MAX_REGULAR_SECTOR : ℕ
MAX_REGULAR_SECTOR = 0xFFFF_FFFA

-- entries of the FAT: for a sector of the DIFAT, for one of the FAT, for the last of a chain, and for no sector
abbrev pub DIFAT_SECTOR : ℕ
DIFAT_SECTOR = 0xFFFF_FFFC

abbrev pub FAT_SECTOR : ℕ
FAT_SECTOR = 0xFFFF_FFFD

abbrev pub END_OF_CHAIN : ℕ
END_OF_CHAIN = 0xFFFF_FFFE

abbrev pub FREE_SECTOR : ℕ
FREE_SECTOR = 0xFFFF_FFFF

-- the link of the directory that leads nowhere
abbrev pub NO_ENTRY : ℕ
NO_ENTRY = 0xFFFF_FFFF

-- the first bytes of each compound file
abbrev pub signature : List ℕ
signature = 0xD0 ∷ 0xCF ∷ 0x11 ∷ 0xE0 ∷ 0xA1 ∷ 0xB1 ∷ 0x1A ∷ 0xE1 ∷ []
