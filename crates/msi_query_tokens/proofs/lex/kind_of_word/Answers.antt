use Rattle.msi_query_tokens.specs.Tokens.{kind_of_word}
use Rattle.msi_query_tokens.proofs.lex.kind_of_word.Goals as goal

-- the key words of the code are those of the definition, by computation
pub returns : goal.returns
unfolding kind_of_word
returns c = c.word_kind.ensures
