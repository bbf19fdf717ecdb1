-- The bytes of client/lexicon.js. tools/client --write wrote this.
use Rattle.std.specs.Prelude.{ℕ, List, codes}

-- the file `lexicon.js`
unfoldable pub lexicon_js : List ℕ
lexicon_js = codes "// The words of the wiki as this page knows them, their forms, and how a text is cut into tokens.\nimport { ask } from './api.js';\n\n// The five kinds; `named` is the place of the form by which a word is named, which is given first where a word is added.\nexport const KINDS = [\n    { kind: 'noun', title: 'Nouns', one: 'noun', named: 0, forms: ['singular', 'plural'], example: 'country, countries' },\n    { kind: 'name', title: 'Names', one: 'proper name', named: 0, forms: ['name'], example: 'Switzerland' },\n    { kind: 'verb', title: 'Verbs', one: 'verb', named: 1, forms: ['third person', 'infinitive', 'past participle'], example: 'borders, border, bordered' },\n    { kind: 'of', title: 'Of-constructs', one: 'of-construct', named: 0, forms: ['noun before of'], example: 'capital (of)' },\n    { kind: 'adjective', title: 'Adjectives', one: 'adjective', named: 0, forms: ['adjective with its preposition'], example: 'located-in' },\n];\n\nlet words = [];\nlet byForm = new Map();\nlet plainForms = new Map();\n\nexport async function load() {\n    ({ words } = await ask('words', {}));\n    byForm = new Map(words.flatMap((word) => word.forms.map((form) => [form, word])));\n    plainForms = new Map(words.map((word) => [word, word.forms.map(plain)]));\n}\n\nexport const allWords = () => words;\nexport const wordOf = (form) => byForm.get(form);\nexport const kindOf = (kind) => KINDS.find((it) => it.kind === kind);\nexport const nameOf = (word) => word.forms[kindOf(word.kind).named];\n\n// A text as it is compared with what a person types: letters that look alike are alike, and so are great and small ones.\nexport const plain = (text) => text.normalize('NFC').toLowerCase();\n\n// The words with what is typed in a form of theirs.\nexport function fitting(typed) {\n    const wanted = plain(typed.trim());\n    return wanted === '' ? words : words.filter((word) => plainForms.get(word).some((form) => form.includes(wanted)));\n}\n\n// The first of these: those with this very form, those that begin with it, then those that have it inside.\nexport function lookUp(typed, most) {\n    const wanted = plain(typed.trim());\n    const fits = [(form) => form === wanted, (form) => form.startsWith(wanted), () => true];\n    const inside = wanted === '' ? [] : fitting(typed);\n    return [...new Set(fits.flatMap((fit) => inside.filter((word) => plainForms.get(word).some(fit))))].slice(0, most);\n}\n\nconst SIBILANT = /(?:s|x|z|ch|sh)$/;\nconst CONSONANT_Y = /[^aeiou-]y$/;\nconst withS = (text) => SIBILANT.test(text) ? text + 'es' : (CONSONANT_Y.test(text) ? text.slice(0, -1) + 'ies' : text + 's');\nconst withD = (text) => text.endsWith('e') ? text + 'd' : (CONSONANT_Y.test(text) ? text.slice(0, -1) + 'ied' : text + 'ed');\n\n// All forms of a word of this kind whose given form is this text.\nexport function suggested(kind, text) {\n    if (text === '') { return kindOf(kind).forms.map(() => ''); }\n    return kind === 'noun' ? [text, withS(text)] : (kind === 'verb' ? [withS(text), text, withD(text)] : [text]);\n}\n\n// The tokens of a text: a last full stop or question mark is one of its own.\nexport const tokensOf = (text) => text.trim().replace(/[.?]$/, ' $&').split(/\\s+/).filter((part) => part !== '');\nexport const isEnd = (token) => token === '.' || token === '?';\nexport const textOf = (tokens) => tokens.reduce((text, token) => text + (text === '' || isEnd(token) ? '' : ' ') + token, '');\n"
