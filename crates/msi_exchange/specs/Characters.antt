-- Control characters, and the characters that stand for them in a text archive (MSI SDK, "ASCII Data in Text Archive
-- Files").
use Rattle.std.specs.Prelude.{ℕ, Bool, ◌==◌, ◌||◌, if◌then◌else◌}

-- The control characters that would take a field or a line apart, or end the text: null, backspace, tab, line feed,
-- form feed and carriage return
abbrev pub is_control : ℕ → Bool
is_control c = (c == 0) || ((c == 8) || ((c == 9) || ((c == 10) || ((c == 12) || (c == 13)))))

-- each changes places with the character that stands for it, and every other character stays
abbrev pub swapped : ℕ → ℕ
swapped c = if c == 0 then 21 else if c == 21 then 0
    else if c == 8 then 27 else if c == 27 then 8
    else if c == 9 then 16 else if c == 16 then 9
    else if c == 10 then 25 else if c == 25 then 10
    else if c == 12 then 24 else if c == 24 then 12
    else if c == 13 then 17 else if c == 17 then 13
    else c

-- the characters that stand for control characters
abbrev pub is_stand_in : ℕ → Bool
is_stand_in c = is_control (swapped c)
