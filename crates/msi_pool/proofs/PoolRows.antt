-- Worked examples of the pool, by computation.
use Rattle.std.specs.Prelude.{◌≡◌, false, List, [], ◌∷◌, ℕ, Option, Some, None, refl, codes, option_and_then, option_map}
use Rattle.msi_base.specs.declared.codepage.CodePage.TheVariants as page
use Rattle.msi_pool_places.specs.Pool.{Pool, Place, pool_stream, data_stream, plain_entry}
use Rattle.msi_pool_places.specs.FirstFit.{taken, given_back}
use Rattle.msi_pool_places.specs.FirstFitLaws.{count_at, text_at}

abbrev utf8_pool : List Place → Pool
utf8_pool places = record { page = page.Utf8; long = false; places = places }

-- the places after each text was taken
abbrev take_all : List Place → List (List ℕ) → Option (List Place)
take_all places [] = Some places
take_all places (t ∷ ts) = option_and_then (λ r. take_all r.1 ts) (taken false places t)

-- Foo, Quux, Foo
three_texts : option_and_then (λ places. pool_stream (utf8_pool places)) (take_all [] (codes "Foo" ∷ codes "Quux" ∷ codes "Foo" ∷ []))
    ≡ Some (0xE9 ∷ 0xFD ∷ 0 ∷ 0 ∷ 3 ∷ 0 ∷ 2 ∷ 0 ∷ 4 ∷ 0 ∷ 1 ∷ 0 ∷ [])
three_texts = refl

three_texts_data : option_and_then (λ places. data_stream (utf8_pool places)) (take_all [] (codes "Foo" ∷ codes "Quux" ∷ codes "Foo" ∷ []))
    ≡ Some (codes "FooQuux")
three_texts_data = refl

-- the empty text and `a`, and the second given back
empty_text : option_and_then (λ places. pool_stream (utf8_pool places)) (option_and_then (λ places. given_back places 2) (take_all [] ([] ∷ codes "a" ∷ [])))
    ≡ Some (0xE9 ∷ 0xFD ∷ 0 ∷ 0 ∷ 0 ∷ 0 ∷ 1 ∷ 0 ∷ 0 ∷ 0 ∷ 0 ∷ 0 ∷ 0 ∷ 0 ∷ 0 ∷ 0 ∷ [])
empty_text = refl

-- a, b, give back 1, b gives place 1
again : option_and_then (λ places. taken false places (codes "b")) (option_and_then (λ places. given_back places 1) (take_all [] (codes "a" ∷ codes "b" ∷ [])))
    ≡ Some (1, record { text = codes "b"; count = 1 } ∷ record { text = codes "b"; count = 1 } ∷ [])
again = refl

-- a count of 65535 isn't raised
counts_full : option_map (λ r. r.0) (taken false (record { text = codes "b"; count = 65535 } ∷ []) (codes "b")) ≡ Some 2
counts_full = refl

-- a place with the text stands behind a free one: the free one is taken
free_comes_first : option_map (λ r. r.0) (taken false (record { text = []; count = 0 } ∷ record { text = codes "b"; count = 1 } ∷ []) (codes "b")) ≡ Some 1
free_comes_first = refl

-- a text that two cells name stays when one of them goes
stays : option_and_then (λ places. given_back places 1) (take_all [] (codes "a" ∷ codes "a" ∷ []))
    ≡ Some (record { text = codes "a"; count = 1 } ∷ [])
stays = refl

-- and goes with the last
goes : option_and_then (λ places. given_back places 1) (take_all [] (codes "a" ∷ [])) ≡ Some (record { text = []; count = 0 } ∷ [])
goes = refl

-- a free place isn't given back
free_refused : given_back (record { text = []; count = 0 } ∷ []) 1 ≡ None
free_refused = refl

-- nor one past the end
unknown_refused : given_back (record { text = codes "a"; count = 1 } ∷ []) 2 ≡ None
unknown_refused = refl

-- past the end there is no text, and no cell
text_past_the_end : text_at (record { text = codes "a"; count = 1 } ∷ []) 2 ≡ []
text_past_the_end = refl

count_past_the_end : count_at (record { text = codes "a"; count = 1 } ∷ []) 2 ≡ 0
count_past_the_end = refl

-- a long text
seventy_thousand : plain_entry (record { len = 70000; count = 1 }) ≡ 0 ∷ 0 ∷ 1 ∷ 0 ∷ 0x70 ∷ 0x11 ∷ 1 ∷ 0 ∷ []
seventy_thousand = refl
