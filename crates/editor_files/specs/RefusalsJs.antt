-- The bytes of client/refusals.js. tools/client --write wrote this.
use Rattle.std.specs.Prelude.{ℕ, List, codes}

-- the file `refusals.js`
unfoldable pub refusals_js : List ℕ
refusals_js = codes "// What stands against a request, as a sentence that says what to do.\nimport { Trouble } from './api.js';\nimport { placeLink, quoted, wordLink } from './page.js';\n\nconst LIMITS = new Map([\n    ['words', (n) => `The wiki has ${n} words, which is the most it can have. Remove one that isn't used first.`],\n    ['sentences', (n) => `All articles together have ${n} sentences, which is the most they can have. Remove one first.`],\n    ['sessions', (n) => `All ${n} places for people who write are taken. Wait until somebody else is done, or start the program again.`],\n    ['tokens', (n) => `A sentence has at most ${n} words and marks. Make two sentences of it.`],\n    ['numbers', () => 'The wiki has given its last number. Start the program again.'],\n]);\n\nconst REFUSALS = new Map([\n    ['BadRequest', () => ['The wiki could not read what this page sent: a text is too long, or has a character that can\\'t be sent. Nothing was changed.']],\n    ['NoWord', (it) => ['No word has the form ', quoted(it.text), '. It may have been renamed or removed by somebody else: look at the list of words.']],\n    ['BadForm', (it) => [`The form number ${it.which + 1} can't be one. A form has letters, and hyphens between two letters, and no spaces, digits or other signs; it has at most 64 bytes.`]],\n    ['Taken', (it) => [quoted(it.text), ' is a form of another word already: ', wordLink(it.word), '. Choose another form.']],\n    ['Reserved', (it) => [quoted(it.text), ' is a word of the grammar, so no other word can have this form. Choose another one.']],\n    ['NoPlace', (it) => [`The article has ${it.length} sentences by now, so there is none at this place. Look at it again.`]],\n    ['NoSession', () => ['The wiki doesn\\'t know this attempt to write any more: the program was started again, or the word was removed. Commit once more.']],\n    ['Full', (it) => [(LIMITS.get(it.which) || (() => 'The wiki is full.'))(it.limit)]],\n    ['Stale', () => ['Somebody else changed the article meanwhile. Look at what changed, and commit once more.']],\n    ['NotOffered', (it) => [quoted(it.text), ' can\\'t stand here any more: the words of the wiki were changed. Go back and choose another word.']],\n    ['Nothing', () => ['Nothing is typed, so nothing can be taken back.']],\n    ['Unfinished', () => ['The sentence isn\\'t whole yet. Go on until . or ? lights up.']],\n    ['NotSentence', () => ['This is no sentence of the wiki\\'s language. Write it word by word from the menu.']],\n    ['InUse', (it) => ['The word can\\'t be removed: ', placeLink(it.article, it.at), ' uses it, or stands in its article. Remove or edit that sentence first.']],\n    ['Breaks', (it) => ['The forms can\\'t be changed: ', placeLink(it.article, it.at), ' uses one of them. A form that a sentence uses can\\'t be changed. Edit or remove that sentence first, or keep the form.']],\n    ['BadStatus', (it) => ['The sentence has the status ', quoted(it.status), ' by now, with which this can\\'t be done. Look at the article again.']],\n    ['GrammarRefused', (it) => ['The text is no grammar: it has the fault ', quoted(it.fault), `, at the byte, feature or rule ${it.at}. Nothing was changed.`]],\n    ['Bare', () => ['The rules of this grammar have no labels, so sentences would mean nothing by it. Give each rule one.']],\n]);\n\nconst STATUSES = new Map([\n    [400, 'The server could not read what this page sent. Load the page again.'],\n    [401, 'You are not signed in. Load this page again, and sign in.'],\n    [403, 'The server doesn\\'t let you do this from here. Open the wiki at its own address, or ask whoever runs it for the right to write.'],\n    [404, 'There is no wiki at this address. Ask whoever runs it.'],\n    [413, 'What was sent is too long. Make it shorter.'],\n    [429, 'Too many requests came from here. Wait a moment, and try again.'],\n    [502, 'The server in front can\\'t reach the wiki. Try again in a minute, or ask whoever runs it.'],\n    [503, 'The wiki has too many visitors at this moment. Try again in a few seconds.'],\n    [504, 'The wiki took too long to answer. Try again in a minute.'],\n]);\n\nconst CAUSES = new Map([\n    ['refused', (error) => (REFUSALS.get(error.reply.name) || ((it) => ['The wiki refused this: ' + String(it.name) + '.']))(error.reply)],\n    ['status', (error) => [STATUSES.get(error.status) || `The server answered with the status ${error.status}. Try again later, or ask whoever runs it.`]],\n    ['network', () => ['The wiki can\\'t be reached. Look whether the program runs and the network is there, and try again.']],\n    ['mixed', () => ['The wiki took the words for those of somebody else, since the program was started again meanwhile. Nothing was committed. Try again.']],\n    ['stopped', () => ['The answer was not waited for any longer.']],\n    ['strange', () => ['What came back is no answer of the wiki; a page to sign in may have come in its place. Load this page again.']],\n]);\n\nexport function explain(error) {\n    if (!(error instanceof Trouble)) { return ['This page has a fault: ' + String(error && error.message)]; }\n    const told = CAUSES.get(error.cause)(error);\n    return error.uncertain ? [...told, ' It is not known yet whether the change was done; the article is read to find out.'] : told;\n}\n"
