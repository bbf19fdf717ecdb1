-- The bytes of client/article.js. tools/client --write wrote this.
use Rattle.std.specs.Prelude.{ℕ, List, codes}

-- the file `article.js`
unfoldable pub article_js : List ℕ
article_js = codes "// The page of an article: its word, its sentences, and the editor below them. What others change appears by itself.\nimport { ask } from './api.js';\nimport { change, isSameAt, matches, sameSentences, whatChanged } from './changes.js';\nimport { append } from './commit.js';\nimport { Editor } from './editor.js';\nimport { load, nameOf, textOf, tokensOf, wordOf } from './lexicon.js';\nimport { address, attempt, button, closeButton, complain, fill, make, quoted, say, visit } from './page.js';\nimport { row, setAnswers, statusName, statusText } from './sentence.js';\nimport { wordPanel } from './usage.js';\nimport { watch } from './watch.js';\nimport { wordForm } from './wordform.js';\n\n// What was typed for an article and not committed, while other pages are looked at.\nconst drafts = new Map();\n\nconst MODES = new Map([\n    ['append', { title: 'A new sentence', label: 'Add' }],\n    ['ask', { title: 'A question', label: 'Ask', only: '?' }],\n    ['edit', { title: 'Edit the marked sentence', label: 'Replace' }],\n    ['insert', { title: 'A sentence before the marked one', label: 'Insert' }],\n]);\n\nexport function articleView(form, place) {\n    const view = new ArticleView(form);\n    attempt(() => view.begin(place));\n    return { element: view.element, title: form, close: () => view.close() };\n}\n\nclass ArticleView {\n    constructor(form) {\n        Object.assign(this, { name: form, shown: { revision: 0, sentences: [] }, isChanging: false, isClosed: false, editor: null, edited: null, stop: () => {} });\n        this.heading = make('h1', {}, make('bdi', {}, form));\n        this.wordPlace = make('div', {});\n        this.news = make('div', { class: 'news', role: 'status' });\n        this.list = make('ol', { class: 'sentences', 'aria-label': 'Sentences' });\n        this.foot = make('div', { class: 'row article-foot' });\n        this.dock = make('div', { class: 'dock' });\n        this.element = make('article', {}, this.heading, this.wordPlace, this.news, this.list, this.foot, this.dock);\n        this.actions = {\n            edit: (element) => this.openEditor('edit', element),\n            insert: (element) => this.openEditor('insert', element),\n            retract: (element) => this.send(this.place(element), 'retract', {}),\n            reassert: (element) => this.send(this.place(element), 'reassert', {}),\n            remove: (element) => this.remove(element),\n            axioms: (element) => this.axioms(this.place(element)),\n        };\n    }\n\n    async begin(place) {\n        await load();\n        const word = wordOf(this.name);\n        if (!word) { return this.showMissing(); }\n        this.name = nameOf(word);\n        fill(this.heading, make('bdi', {}, this.name));\n        fill(this.wordPlace, wordPanel(word));\n        fill(this.foot, button('Write a sentence', () => this.openEditor('append', null), { class: 'main' }), button('Ask a question', () => this.openEditor('ask', null)));\n        this.show(await this.read());\n        if (place !== null) { this.point(place); }\n        if (!this.isClosed) { this.stop = watch(() => this.read(), (next) => this.receive(next), (error) => this.lost(error)); }\n    }\n\n    close() {\n        this.isClosed = true;\n        this.keepDraft();\n        this.stop();\n    }\n\n    read() {\n        return ask('read', { article: this.name });\n    }\n\n    showMissing() {\n        const form = wordForm({ text: this.name }, (forms) => visit(address(nameOf(wordOf(forms[0])))));\n        fill(this.wordPlace, make('p', {}, 'No word has the form ', quoted(this.name), '. It can be added:'), make('div', { class: 'panel' }, form.element));\n    }\n\n    place(element) {\n        return [...this.list.children].indexOf(element);\n    }\n\n    // Rows whose sentence stays keep their place on the page, with what is open or has the focus in them.\n    show(next) {\n        const found = matches(this.shown.sentences, next.sentences);\n        const rows = [...this.list.children];\n        const kept = new Set(found);\n        rows.filter((element, at) => !kept.has(at)).forEach((element) => element.remove());\n        next.sentences.forEach((sentence, at) => {\n            const element = rows[found[at]] || row(sentence, this.actions);\n            setAnswers(element, sentence);\n            if (this.list.children[at] !== element) { this.list.insertBefore(element, this.list.children[at] || null); }\n        });\n        this.list.classList.toggle('none', next.sentences.length === 0);\n        this.shown = next;\n        return found;\n    }\n\n    point(place) {\n        const element = this.list.children[place];\n        this.list.querySelectorAll('.pointed').forEach((it) => it.classList.remove('pointed'));\n        if (element) {\n            element.classList.add('pointed');\n            element.scrollIntoView({ block: 'center' });\n            element.focus({ preventScroll: true });\n        } else {\n            complain('The article has no such sentence any more.');\n        }\n    }\n\n    async receive(next) {\n        if (this.news.querySelector('.lost')) { fill(this.news); }\n        if (this.isChanging || JSON.stringify(next) === JSON.stringify(this.shown)) { return; }\n        const isNews = !sameSentences(this.shown.sentences, next.sentences);\n        if (isNews) { await load(); }\n        this.accept(next, isNews ? ['Somebody else changed this article:', whatChanged(this.shown, next)] : null);\n    }\n\n    // Shows a reading, with what is new in it.\n    accept(next, news) {\n        const found = this.show(next);\n        if (news === null) { return; }\n        const mark = (isFresh) => [...this.list.children].forEach((it, at) => it.classList.toggle('fresh', isFresh(at)));\n        mark((at) => found[at] === -1);\n        fill(this.news, make('div', { class: 'notice plain' }, make('div', {}, news), closeButton(() => {\n            mark(() => false);\n            fill(this.news);\n        })));\n    }\n\n    lost(error) {\n        const isGone = error.is && error.is('NoWord');\n        const text = isGone ? 'The word of this article was removed or renamed by somebody else. Look at the list of words.'\n            : 'The wiki doesn\\'t answer at present, so this page may be out of date. It goes on trying.';\n        if (!this.news.querySelector('.lost')) { fill(this.news, make('div', { class: 'notice bad lost' }, text)); }\n        return !isGone;\n    }\n\n    // While a change of our own is under way, what is read is no news of others.\n    async whileChanging(action) {\n        this.isChanging = true;\n        try {\n            return await action();\n        } finally {\n            this.isChanging = false;\n        }\n    }\n\n    async send(at, name, members, whenDone = () => {}) {\n        const result = await this.whileChanging(() => change(this.name, this.shown, at, name, members));\n        if (result.done) { whenDone(); }\n        this.show(result.now);\n        if (result.done && name !== 'remove') {\n            this.point(at);\n            this.tell(result.now.sentences[at]);\n        }\n        return result;\n    }\n\n    tell(sentence) {\n        if (sentence) { say(quoted(sentence.text), ' is marked ', make('strong', {}, statusName(sentence.status)), '. ', statusText(sentence.status)); }\n    }\n\n    async remove(element) {\n        const at = this.place(element);\n        const sentence = this.shown.sentences[at];\n        if (!(await this.send(at, 'remove', {})).done) { return; }\n        const follower = this.list.children[at];\n        const back = button('Put it back', async () => {\n            notice.remove();\n            await this.send(follower && follower.isConnected ? this.place(follower) : this.shown.sentences.length, 'add', { text: sentence.text });\n        });\n        const notice = say('Removed ', quoted(sentence.text), ', which was ', statusName(sentence.status), '. ', back);\n        back.focus();\n    }\n\n    async axioms(at) {\n        const now = await this.read();\n        if (isSameAt(this.shown, now, at)) { return ask('axioms', { article: this.name, at }); }\n        this.accept(now, ['Somebody else changed this article:', whatChanged(this.shown, now)]);\n        return null;\n    }\n\n    keepDraft() {\n        if (this.editor && this.edited === null) { drafts.set(this.name, this.editor.tokens.slice()); }\n    }\n\n    openEditor(mode, element) {\n        this.keepDraft();\n        const old = mode === 'edit' ? tokensOf(this.shown.sentences[this.place(element)].text) : [];\n        this.edited = element === null ? null : { element, name: mode === 'edit' ? 'edit' : 'add' };\n        [...this.list.children].forEach((it) => it.classList.toggle('edited', it === element));\n        this.editor = new Editor({\n            ...MODES.get(mode),\n            tokens: element === null ? drafts.get(this.name) || [] : old,\n            commit: (tokens) => (element === null ? this.append(tokens) : this.replace(tokens)),\n            cancel: () => this.closeEditor(),\n        });\n        fill(this.dock, this.editor.element);\n        this.foot.hidden = true;\n        if (element) { element.scrollIntoView({ block: 'center' }); }\n        this.editor.focus();\n    }\n\n    closeEditor() {\n        this.keepDraft();\n        fill(this.dock);\n        this.foot.hidden = false;\n        [...this.list.children].forEach((it) => it.classList.remove('edited'));\n        (this.edited && this.edited.element.isConnected ? this.edited.element : this.foot.firstElementChild).focus();\n        Object.assign(this, { editor: null, edited: null });\n    }\n\n    append(tokens) {\n        const { editor } = this;\n        return this.whileChanging(() => append({\n            article: this.name, shown: this.shown, tokens,\n            offer: (children, label, action) => editor.offer(children, label, () => this.whileChanging(action)),\n            moved: (now) => this.show(now),\n            done: (now) => {\n                this.show(now);\n                editor.clear();\n                (this.list.lastElementChild || this.list).scrollIntoView({ block: 'nearest' });\n                this.tell(now.sentences[now.sentences.length - 1]);\n            },\n        }));\n    }\n\n    async replace(tokens) {\n        const { element, name } = this.edited;\n        if (element.isConnected) {\n            await this.send(this.place(element), name, { text: textOf(tokens) }, () => this.closeEditor());\n        } else {\n            this.editor.offer(['Somebody else changed or removed the marked sentence, so nothing was sent. What you typed can be added at the end.'],\n                'Add it at the end', () => this.append(tokens));\n        }\n    }\n}\n"
