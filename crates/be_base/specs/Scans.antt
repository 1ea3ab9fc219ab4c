-- What a scan of a text's first token answers.
use Rattle.std.specs.Prelude.{◌≡◌, ◌<◌, [], length, Some, None}
use Rattle.be_base.specs.Text.{Text}
use Rattle.be_base.specs.Tokens.{Lexeme, word, less, less_or_equal, equal, not_equal, greater_or_equal, greater, open_brace, close_brace, comma, tokens, put_token}
use Rattle.be_base.specs.Fronts.{IsAfterBlanks}
use Rattle.be_base.specs.FirstTokens.{BeginsNoToken}
use Rattle.be_base.specs.declared.tokens.Token.{Token}
use Rattle.be_base.specs.declared.tokens.Token.TheVariants.{Word, Less, LessOrEqual, Equal, NotEqual, GreaterOrEqual, Greater, OpenBrace, CloseBrace, Comma}
use Rattle.be_base.specs.declared.tokens.Scan.{Scan}
use Rattle.be_base.specs.declared.tokens.Scan.TheVariants.{Found, End, Stray}

abbrev pub lexeme : Token → Lexeme
lexeme (Word text) = word text.now
lexeme Less = less
lexeme LessOrEqual = less_or_equal
lexeme Equal = equal
lexeme NotEqual = not_equal
lexeme GreaterOrEqual = greater_or_equal
lexeme Greater = greater
lexeme OpenBrace = open_brace
lexeme CloseBrace = close_brace
lexeme Comma = comma

-- after blanks the text begins with a byte that begins no token
abbrev pub StraysAfterBlanks : Text → Type 0
StraysAfterBlanks text = (rest : Text) × IsAfterBlanks text rest × BeginsNoToken rest

-- the first token and those of the rest are the tokens of the text
abbrev pub Scans : Text → Scan → Type 0
Scans text (Found token rest) = (tokens text ≡ put_token (lexeme token) (tokens rest.now)) × (length rest.now < length text)
Scans text End = tokens text ≡ Some []
Scans text Stray = (tokens text ≡ None) × StraysAfterBlanks text
