-- Languages and UUIDs as texts.
use Rattle.std.specs.Prelude.{ℕ, List, codes}
use Rattle.std.specs.List.{join_by}
use Rattle.std.specs.Fmt.{decimal}
use Rattle.uuid.specs.Text.{braced_text, upper}

-- the ids in decimal, parted by commas
abbrev pub language_list_text : List ℕ → List ℕ
language_list_text ids = join_by decimal (codes ",") ids

-- a UUID in braces and upper case
abbrev pub braced_uuid_text : List ℕ → List ℕ
braced_uuid_text uuid = braced_text upper uuid
